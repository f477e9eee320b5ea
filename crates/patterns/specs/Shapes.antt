-- What a pattern is to every contract: for each suit the four seats' lengths and the owners of its highest cards.
use Rattle.std.specs.Prelude.{◌≡◌, ℕ, ◌+◌, ◌≤◌, List, ◌++◌, length, slice_index, count_by}
use Rattle.cards.specs.declared.suits.Suit.{Suit}
use Rattle.cards.specs.declared.suits.Suit.TheVariants.{Spades, Hearts, Diamonds, Clubs}
use Rattle.cards.specs.declared.seats.Seat.{Seat}
use Rattle.cards.specs.declared.seats.Seat.TheVariants.{North, East, South, West}
use Rattle.cards.specs.Seats.{seat_number, is_same_seat}

-- one suit: how many cards of it North, East, South and West have, and who owns its highest cards, in falling order
pub record SuitShape : Type 0 where
  pub lens : List ℕ
  pub owners : List Seat

-- the four suits
pub record Shape : Type 0 where
  pub spades : SuitShape
  pub hearts : SuitShape
  pub diamonds : SuitShape
  pub clubs : SuitShape

-- one of the four
abbrev pub suit_of : Shape → Suit → SuitShape
suit_of shape Spades = shape.spades
suit_of shape Hearts = shape.hearts
suit_of shape Diamonds = shape.diamonds
suit_of shape Clubs = shape.clubs

-- how many cards of the suit the seat has
abbrev pub len_of : SuitShape → Seat → ℕ
len_of suit seat = slice_index suit.lens (seat_number seat)

-- how often the seat is an owner
abbrev pub tops_of : SuitShape → Seat → ℕ
tops_of suit seat = count_by (is_same_seat seat) suit.owners

-- how many cards of the suit the four seats have
abbrev pub suit_size : SuitShape → ℕ
suit_size suit = len_of suit North + len_of suit East + len_of suit South + len_of suit West

-- how many cards the seat has
abbrev pub hand_size : Shape → Seat → ℕ
hand_size shape seat =
    len_of shape.spades seat + len_of shape.hearts seat + len_of shape.diamonds seat + len_of shape.clubs seat

-- What patterns and rests have in common: no suit has over 13 cards, the hands are of one size, within the bounds
-- given, and no seat is an owner in a suit more often than it has cards there.
pub record IsShape (fewest most : ℕ) (shape : Shape) : Type 0 where
  pub four_seats : (suit : Suit) → length (suit_of shape suit).lens ≡ 4
  pub suits : (suit : Suit) → suit_size (suit_of shape suit) ≤ 13
  pub hands : (seat : Seat) → hand_size shape seat ≡ hand_size shape North
  pub some_cards : fewest ≤ hand_size shape North
  pub not_over : hand_size shape North ≤ most
  pub owners : (suit : Suit) (seat : Seat) → tops_of (suit_of shape suit) seat ≤ len_of (suit_of shape suit) seat

-- a pattern has 1 to 13 cards a seat
abbrev pub IsPattern : Shape → Type 0
IsPattern shape = IsShape 1 13 shape

-- a rest, what is left of a pattern after a trick, has 0 to 12
abbrev pub IsRest : Shape → Type 0
IsRest shape = IsShape 0 12 shape

-- a list begins with another
abbrev pub BeginsWith : List Seat → List Seat → Type 0
BeginsWith whole start = (more : List Seat) × (whole ≡ start ++ more)

-- one suit covers another: the lengths are equal, and the owners are a beginning of the other's
pub record CoversSuit (suit rest : SuitShape) : Type 0 where
  pub lens : suit.lens ≡ rest.lens
  pub owners : BeginsWith rest.owners suit.owners

-- A pattern covers a rest: the lengths are equal, and in each suit the pattern's owners are a beginning of the rest's.
abbrev pub Covers : Shape → Shape → Type 0
Covers pattern rest = (suit : Suit) → CoversSuit (suit_of pattern suit) (suit_of rest suit)
