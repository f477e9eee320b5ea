-- What a suit tells of its low cards where one seat alone has some: each of them is that seat's, so the suit says who
-- holds all its cards.
use Rattle.std.specs.Prelude.{ℕ, zero, ◌-◌, List, [], ◌++◌, replicate}
use Rattle.cards.specs.declared.seats.Seat.{Seat}
use Rattle.cards.specs.declared.seats.Seat.TheVariants.{North, East, South, West}
use Rattle.patterns.specs.Shapes.{SuitShape, Shape, len_of, tops_of}

-- how many low cards of the suit the seat has
abbrev pub lows_of : SuitShape → Seat → ℕ
lows_of suit seat = len_of suit seat - tops_of suit seat

-- Of these numbers of cards, those of North, East, South and West: the one seat that has some, once for each of them.
-- No seat, where none has some or more than one.
abbrev pub lone_holder : ℕ → ℕ → ℕ → ℕ → List Seat
lone_holder cards zero zero zero = replicate cards North
lone_holder zero cards zero zero = replicate cards East
lone_holder zero zero cards zero = replicate cards South
lone_holder zero zero zero cards = replicate cards West
lone_holder _ _ _ _ = []

-- the suit, its owners lengthened by the one seat that has low cards, once for each of them
abbrev pub completed_suit : SuitShape → SuitShape
completed_suit suit = record {
  lens = suit.lens;
  owners = suit.owners
      ++ lone_holder (lows_of suit North) (lows_of suit East) (lows_of suit South) (lows_of suit West);
}

-- each suit completed so
abbrev pub completed : Shape → Shape
completed shape = record {
  spades = completed_suit shape.spades;
  hearts = completed_suit shape.hearts;
  diamonds = completed_suit shape.diamonds;
  clubs = completed_suit shape.clubs;
}
