use Rattle.dds_calls.proofs.PlayLaws.{never_refused}
use Rattle.dds_calls.proofs.plays.begun_with.Goals as goal

pub unreachable-requires : goal.unreachable-requires
unreachable-requires c =
    never_refused c.args.trick.now c.played-card-items.result.now c.loop-card.play c.loop-card.card-index _ c.in-Err._fault c.invariant.ensures.reached c.played-card-items.ensures.played c.loop-card.invariant c.loop-card-test.true c.in-Err.ensures.cases
