-- The cards so far touch all cards.
use Rattle.std.proofs.Common.{◌<◌, ℕ, get_or, Contains}
use Rattle.cards.specs.declared.pack.Card.{Card}
use Rattle.dds_calls.specs.Touching.{Touch}
use Rattle.dds_calls.proofs.touching.all_touch.Given as goal

abbrev pub invariant-loop-card : goal.invariant-loop-card
invariant-loop-card l =
    (k : ℕ) → k < l.card-index → (d other : Card) → Contains l.fn.cards other → Touch l.fn.layout l.fn.player (get_or l.fn.cards k d) other
