-- Sets of seats.
use Rattle.std.specs.Prelude.{Bool}
use Rattle.cards.specs.declared.seats.Seat.{Seat}
use Rattle.cards.specs.declared.seats.Seat.TheVariants.{North, East, South, West}

-- which of the four seats are in the set
pub record Seats : Type 0 where
  pub north : Bool
  pub east : Bool
  pub south : Bool
  pub west : Bool

-- whether the seat is in the set
abbrev pub is_in : Seats → Seat → Bool
is_in seats North = seats.north
is_in seats East = seats.east
is_in seats South = seats.south
is_in seats West = seats.west
