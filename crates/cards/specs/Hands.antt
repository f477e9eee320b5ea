-- Four hands as words of bits: bit 13·s + r for the card of suit s and rank r.
use Rattle.std.specs.Prelude.{◌≡◌, ◌≢◌, ℕ, ◌^◌, ◌<◌, ◌≤◌, ◌+◌, ◌==◌, List, [], ◌∷◌, length, map}
use Rattle.std.specs.Prelude.{Option, None, Some, if◌then◌else◌, slice_index, count_ones, ◌⊎◌}
use Rattle.std.specs.Int.{bit_at}
use Rattle.std.specs.List.{range_with_len}
use lib.Lanes.{mask_l}
use Rattle.cards.specs.declared.seats.Seat.{Seat}
use Rattle.cards.specs.declared.seats.Seat.TheVariants.{North, East, South, West}
use Rattle.cards.specs.declared.pack.Card.{Card}
use Rattle.cards.specs.Pack.{card_number}
use Rattle.cards.specs.Seats.{seat_number}
use Rattle.cards.specs.Deal.{Deal, holder_of, is_held_by}

-- the word of a seat
abbrev pub word_of : List ℕ → Seat → ℕ
word_of hands seat = slice_index hands (seat_number seat)

-- the seat's word has the card's bit
abbrev pub HasBit : List ℕ → Seat → Card → Type 0
HasBit hands seat card = bit_at (word_of hands seat) (card_number card) ≡ 1

-- some word has a bit that stands for no card
abbrev pub HaveStrayBit : List ℕ → Type 0
HaveStrayBit hands = (seat : Seat) × (2 ^ 52 ≤ word_of hands seat)

-- each bit of each word stands for a card
abbrev pub HaveCardsAlone : List ℕ → Type 0
HaveCardsAlone hands = (seat : Seat) → word_of hands seat < 2 ^ 52

-- two seats have the same card
pub record HaveCardTwice (hands : List ℕ) : Type 0 where
  pub card : Card
  pub one : Seat
  pub other : Seat
  pub apart : one ≢ other
  pub in_one : HasBit hands one card
  pub in_other : HasBit hands other card

-- no card is in two hands
abbrev pub AreDisjoint : List ℕ → Type 0
AreDisjoint hands = (card : Card) (one other : Seat) → HasBit hands one card → HasBit hands other card → one ≡ other

-- how many cards a seat's word names
abbrev pub word_size : List ℕ → Seat → ℕ
word_size hands seat = count_ones (word_of hands seat)

-- the hands are of one size, 1 to 13
pub record AreSized (hands : List ℕ) : Type 0 where
  pub some_cards : 1 ≤ word_size hands North
  pub at_most_13 : word_size hands North ≤ 13
  pub equal : (seat : Seat) → word_size hands seat ≡ word_size hands North

-- a hand is empty, or of over 13 cards, or two are of unequal size
abbrev pub AreMissized : List ℕ → Type 0
AreMissized hands = (word_size hands North ≡ 0)
    ⊎ ((13 < word_size hands North) ⊎ ((seat : Seat) × (word_size hands seat ≢ word_size hands North)))

-- each seat holds the cards of its word, and no others
pub record Deals (hands : List ℕ) (deal : Deal) : Type 0 where
  pub held : (card : Card) (seat : Seat) → HasBit hands seat card → holder_of deal card ≡ Some seat
  pub no_others : (card : Card) (seat : Seat) → holder_of deal card ≡ Some seat → HasBit hands seat card

-- the seat whose bit is 1, of four bits for North, East, South and West
abbrev pub holder_by_bits : ℕ → ℕ → ℕ → ℕ → Option Seat
holder_by_bits north east south west =
    if north == 1 then Some North
    else (if east == 1 then Some East
    else (if south == 1 then Some South
    else (if west == 1 then Some West else None)))

-- the holder of the card with this number
abbrev pub holder_by_words : List ℕ → ℕ → Option Seat
holder_by_words hands i =
    holder_by_bits (bit_at (slice_index hands 0) i) (bit_at (slice_index hands 1) i) (bit_at (slice_index hands 2) i)
    (bit_at (slice_index hands 3) i)

-- the deal that the words stand for
unfoldable pub deal_of_words : List ℕ → Deal
deal_of_words hands = map (holder_by_words hands) (range_with_len 0 52)

-- the words of a layout: four, of cards alone, no bit in two of them, and of one size
pub record IsDealt (hands : List ℕ) : Type 0 where
  pub four : length hands ≡ 4
  pub cards_alone : HaveCardsAlone hands
  pub one_holder :
      (i : ℕ) →
      bit_at (slice_index hands 0) i + bit_at (slice_index hands 1) i + bit_at (slice_index hands 2) i
      + bit_at (slice_index hands 3) i ≤ 1
  pub sized : AreSized hands

-- the word of a seat's cards in a deal
unfoldable pub word_of_deal : Seat → Deal → ℕ
word_of_deal seat deal = mask_l (map (is_held_by seat) deal)

-- the four words of a deal
abbrev pub words_of_deal : Deal → List ℕ
words_of_deal deal =
    word_of_deal North deal ∷ word_of_deal East deal ∷ word_of_deal South deal ∷ word_of_deal West deal ∷ []
