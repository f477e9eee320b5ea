use Rattle.checker.proofs.BegunLaws.{one_more_taken}
use Rattle.checker.proofs.begun.trick_begun.Goals as goal

pub loop-card-preserved : goal.loop-card-preserved
loop-card-preserved c =
    one_more_taken c.args.node.now c.loop-card.played c.with-played.result c.args.cards.now c.loop-card.card-index _ c.loop-card-test.true c.loop-card.invariant.0 c.loop-card.invariant.1
    (c.may_come_next.ensures.0 c.if-not-may_come_next.false) c.with-played.ensures
