-- The pattern cards so far stand for the cards so far.
use Rattle.std.proofs.Common.{◌≡◌, take, length}
use Rattle.checker.specs.Begun.{StandForCards}
use Rattle.card_values.proofs.after_claims.path_of.Given as goal

abbrev pub invariant-loop-card : goal.invariant-loop-card
invariant-loop-card l =
    StandForCards l.node.pattern l.layout l.path.items (take l.card-index l.cards) × (length l.path.items ≡ l.card-index)
