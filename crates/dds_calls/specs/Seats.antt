-- DDS's numbers of seats, clockwise from North.
use Rattle.std.specs.Prelude.{◌≢◌, ℤ, pos}
use Rattle.cards.specs.declared.seats.Seat.{Seat}
use Rattle.cards.specs.Seats.{seat_number}

-- the number stands for no seat
abbrev pub IsNoSeat : ℤ → Type 0
IsNoSeat number = (seat : Seat) → pos (seat_number seat) ≢ number
