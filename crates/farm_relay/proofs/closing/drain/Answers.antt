use Rattle.std.proofs.Common.{arith}
use Rattle.farm_relay.proofs.Moves.{takes, sees}
use Rattle.farm_relay.proofs.Joining.{drained_message, drained_mark, drained}
use Rattle.farm_relay.proofs.closing.drain.Goals as goal

pub try_recv_as-requires-clause-rule : goal.try_recv_as-requires-clause-rule
try_recv_as-requires-clause-rule g c =
    let same = c.loop.invariant.1.shares in let all = c.requires.all in (takes _ _ (omega arith), sees _ _)

pub returns-in-Err : goal.returns-in-Err
returns-in-Err g c = drained _ _ _ c.requires.all c.loop.invariant.1 c.in-Err.ensures.rule.1

pub loop-preserved-in-Continue-1 : goal.loop-preserved-in-Continue-1
loop-preserved-in-Continue-1 g c =
    let is = rw c.in-Ok-Message.field-0-is at c.in-Ok-Message.ensures.rule in
    let more = drained_message _ _ _ c.loop.left.items c.in-Ok-Message.message c.loop.invariant.1 is in
    (c.try_recv_as.ensures.channel.0, rw c.in_ok-push-in-Ok-Message.ensures.items more)

pub loop-preserved : goal.loop-preserved
loop-preserved g c =
    let is = rw c.in-Ok-EndMark.field-0-is at c.in-Ok-EndMark.ensures.rule in
    (c.try_recv_as.ensures.channel.0, drained_mark _ _ _ c.loop.left.items c.loop.invariant.1 is)
