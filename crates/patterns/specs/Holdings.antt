-- One suit of a layout as four words of bits, those of North, East, South and West.
use Rattle.std.specs.Prelude.{◌≡◌, ℕ, ◌^◌, ◌<◌, ◌↔◌, List, [], ◌∷◌, length, Some, slice_index}
use Rattle.std.specs.List.{filter_map}
use Rattle.std.specs.Int.{bit_at}
use Rattle.cards.specs.declared.suits.Suit.{Suit}
use Rattle.cards.specs.declared.pack.Rank.{Rank}
use Rattle.cards.specs.declared.seats.Seat.{Seat}
use Rattle.cards.specs.Deal.{Deal, holder_of}
use Rattle.cards.specs.Hands.{holder_by_words}
use Rattle.cards.specs.Pack.{card_of, rank_number}
use Rattle.cards.specs.Seats.{seat_number}

-- the words tell who holds each card of the suit: a seat's word has the bit of each rank that it holds, and no other
pub record TellHolders (words : List ℕ) (deal : Deal) (suit : Suit) : Type 0 where
  pub four : length words ≡ 4
  pub below : (seat : Seat) → slice_index words (seat_number seat) < 2 ^ 13
  pub bits : (seat : Seat) (rank : Rank)
      → (bit_at (slice_index words (seat_number seat)) (rank_number rank) ≡ 1)
      ↔ (holder_of deal (card_of suit rank) ≡ Some seat)

-- the ranks as numbers, the highest first
abbrev pub falling_numbers : List ℕ
falling_numbers = 12 ∷ 11 ∷ 10 ∷ 9 ∷ 8 ∷ 7 ∷ 6 ∷ 5 ∷ 4 ∷ 3 ∷ 2 ∷ 1 ∷ 0 ∷ []

-- the seats that hold the suit's cards, that of the highest card first
unfoldable pub holders_in : List ℕ → List Seat
holders_in words = filter_map (holder_by_words words) falling_numbers
