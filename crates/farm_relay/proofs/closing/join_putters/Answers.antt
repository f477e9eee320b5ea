use Rattle.std.proofs.Common.{arith, ap}
use Rattle.crossbeam_channel.specs.Claims.{view}
use Rattle.farm_relay.proofs.Moves.{joins}
use Rattle.farm_relay.proofs.Joining.{taken_more, putters_more}
use Rattle.farm_relay.proofs.closing.join_putters.Goals as goal

pub absorb-requires-clause-rule : goal.absorb-requires-clause-rule
absorb-requires-clause-rule g c = let has = c.loop-putter.invariant.1.shares in let some_share = c.requires.share in joins _ _ _ _ (omega arith)

pub loop-putter-preserved : goal.loop-putter-preserved
loop-putter-preserved g c =
    let i = c.loop-putter.invariant in (
      c.absorb.ensures.channel.0,
      putters_more _ _ _ _ c.in-Some.putter _ i.1 (ap (λ p. view p) c.into_pass.ensures) c.absorb.ensures.rule,
      taken_more _ _ _ _ _ c.in-Some.ensures.steps.0 i.2,
    )
