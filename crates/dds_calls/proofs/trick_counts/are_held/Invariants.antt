-- None of the cards so far is in a hand.
use Rattle.std.proofs.Common.{◌<◌, ℕ, get_or}
use Rattle.cards.specs.declared.pack.Card.{Card}
use Rattle.cards.specs.declared.seats.Seat.{Seat}
use Rattle.cards.specs.Hands.{HasBit}
use Rattle.dds_calls.proofs.trick_counts.are_held.Given as goal

abbrev pub invariant-loop-card : goal.invariant-loop-card
invariant-loop-card l =
    (k : ℕ) → k < l.card-index → (other : Card) (seat : Seat) → HasBit l.words seat (get_or l.cards k other) → ⊥
