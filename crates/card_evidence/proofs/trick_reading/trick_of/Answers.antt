use Rattle.std.proofs.Common.{arith}
use Rattle.card_evidence.proofs.TrickLemmas.{never_refused}
use Rattle.card_evidence.proofs.trick_reading.trick_of.Goals as goal

pub returns-in-Err : goal.returns-in-Err
returns-in-Err c =
    never_refused c.loop-card.trick _ c.args.cards.now c.loop-card.card-index _ _ c.loop-card.invariant.opening c.loop-card.invariant.history (omega (arith, c.loop-card-test.true)) c.in-Err.ensures.cases
