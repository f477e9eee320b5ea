use Rattle.std.proofs.Common.{arith}
use Rattle.farm_relay.specs.declared.items.Item.TheVariants.{EndMark}
use Rattle.farm_relay.proofs.Moves.{puts, silent}
use Rattle.farm_relay.proofs.Parts.{marks_more}
use Rattle.farm_relay.proofs.sending.send_marks.Goals as goal

pub send_as-requires-clause-rule : goal.send_as-requires-clause-rule
send_as-requires-clause-rule g c =
    let same = c.loop-mark.invariant.1.shares in let has = c.requires.share in (puts _ _ _ EndMark (omega arith), silent _ _)

pub loop-mark-preserved : goal.loop-mark-preserved
loop-mark-preserved g c = (c.send_as.ensures.channel.0, marks_more _ _ _ _ c.loop-mark.invariant.1 c.in-Ok.ensures.rule)
