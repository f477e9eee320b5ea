-- The values so far are those of the cards with claims among the cards so far.
use Rattle.std.proofs.Common.{take}
use Rattle.best_cards.proofs.ReachLaws.{SoFar}
use Rattle.best_cards.proofs.judging.values_of.Given as goal

abbrev pub invariant-loop-card : goal.invariant-loop-card
invariant-loop-card l =
    SoFar l.trick l.graphs l.claims l.tricks (take l.card-index l.card-items) l.values.items
