-- Sets of cards as words, with one bit for each card.
use Rattle.std.specs.Prelude.{◌≡◌, ℕ, ◌+◌, ◌*◌, ◌<◌, ◌↔◌, min, Some, slice_get}
use Rattle.std.specs.Int.{bit_at}
use Rattle.cards.specs.declared.seats.Seat.{Seat}
use Rattle.cards.specs.Pack.{suit_number}
use Rattle.patterns.specs.Shapes.{SuitShape, len_of, tops_of}
use Rattle.pattern_step.specs.declared.pat_cards.PatCard.{PatCard}
use Rattle.pattern_step.specs.declared.pat_cards.PatCard.TheVariants.{Top, Low}
use Rattle.certificate_graph.specs.Trees.{Branches}
use Rattle.checker.specs.Places.{HasBranchOf}

-- The bit of a card: a suit has sixteen, the spades the lowest; in a suit the tops have the bits of their places, and
-- the low cards the last one. Tops in places that no pattern has share the bit between.
abbrev pub place_in_set : PatCard → ℕ
place_in_set (Top suit place) = 16 * suit_number suit + min place 14
place_in_set (Low suit) = 16 * suit_number suit + 15

-- a branch has a card with this bit
abbrev pub HasBranchIn : Branches → ℕ → Type 0
HasBranchIn branches bit = (card : PatCard) × (place_in_set card ≡ bit) × HasBranchOf branches card

-- these sixteen bits are the seat's cards of a suit
pub record SuitSetOf (held : SuitShape) (seat : Seat) (set : ℕ) : Type 0 where
  pub tops : (place : ℕ) → place < 15 → (bit_at set place ≡ 1) ↔ (slice_get held.owners place ≡ Some seat)
  pub low : (bit_at set 15 ≡ 1) ↔ (tops_of held seat < len_of held seat)
