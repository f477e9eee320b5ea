-- What a layout is to every contract: who holds each card of the pack.
use Rattle.std.specs.Prelude.{◌≡◌, ℕ, ◌≤◌, Bool, true, false, List, length}
use Rattle.std.specs.Prelude.{Option, None, Some, slice_index_or, count_by}
use Rattle.std.specs.Cmp.Lexicographic.{pointwise}
use Rattle.cards.specs.declared.seats.Seat.{Seat}
use Rattle.cards.specs.declared.seats.Seat.TheVariants.{North}
use Rattle.cards.specs.declared.pack.Card.{Card}
use Rattle.cards.specs.Pack.{card_number}
use Rattle.cards.specs.Seats.{is_same_seat}

-- the holder of each card, by the card's number; `None` where nobody holds it
abbrev pub Deal : Type 0
Deal = List (Option Seat)

-- who holds a card
abbrev pub holder_of : Deal → Card → Option Seat
holder_of deal card = slice_index_or deal (card_number card) None

-- whether a place of the list names the seat
abbrev pub is_held_by : Seat → Option Seat → Bool
is_held_by seat None = false
is_held_by seat (Some other) = is_same_seat seat other

-- how many cards the seat holds
abbrev pub count_of : Deal → Seat → ℕ
count_of deal seat = count_by (is_held_by seat) deal

-- how many cards a hand of a layout has
abbrev pub size_of : Deal → ℕ
size_of deal = count_of deal North

-- A layout: no card has two holders, and each seat holds equally many cards, 1 to 13.
pub record IsLayout (deal : Deal) : Type 0 where
  pub whole_pack : length deal ≡ 52
  pub some_cards : 1 ≤ size_of deal
  pub at_most_13 : size_of deal ≤ 13
  pub equal_hands : (seat : Seat) → count_of deal seat ≡ size_of deal

-- whether two places name the same holder, or neither names one
abbrev pub is_same_holder : Option Seat → Option Seat → Bool
is_same_holder None None = true
is_same_holder (Some one) (Some other) = is_same_seat one other
is_same_holder _ _ = false

-- whether each card has the same holder in both
abbrev pub is_same_deal : Deal → Deal → Bool
is_same_deal = pointwise is_same_holder
