-- The seats clockwise from North, and the sides (Laws 4 and 44B).
use Rattle.std.specs.Prelude.{ℕ, zero, suc, ◌+◌, ◌-◌, ◌%◌, Bool, true, false, List, codes}
use Rattle.cards.specs.declared.seats.Seat.{Seat}
use Rattle.cards.specs.declared.seats.Seat.TheVariants.{North, East, South, West}
use Rattle.cards.specs.declared.seats.Side.{Side}
use Rattle.cards.specs.declared.seats.Side.TheVariants.{NorthSouth, EastWest}

-- the seat at the left, which plays next
abbrev pub next_of : Seat → Seat
next_of North = East
next_of East = South
next_of South = West
next_of West = North

-- the place of a seat, clockwise from North
abbrev pub seat_number : Seat → ℕ
seat_number North = 0
seat_number East = 1
seat_number South = 2
seat_number West = 3

-- the seat this many places clockwise
abbrev pub seat_in_place : Seat → ℕ → Seat
seat_in_place seat zero = seat
seat_in_place seat (suc places) = seat_in_place (next_of seat) places

-- how many places clockwise from the first seat the second one is, 0 to 3
abbrev pub place_of : Seat → Seat → ℕ
place_of leader seat = (seat_number seat + 4 - seat_number leader) % 4

-- North and South are partners, and so are East and West
abbrev pub side_of : Seat → Side
side_of North = NorthSouth
side_of East = EastWest
side_of South = NorthSouth
side_of West = EastWest

-- the place of a side in their order, North and South first
abbrev pub side_number : Side → ℕ
side_number NorthSouth = 0
side_number EastWest = 1

-- the opponents of a side
abbrev pub other_side : Side → Side
other_side NorthSouth = EastWest
other_side EastWest = NorthSouth

-- whether two seats are the same
abbrev pub is_same_seat : Seat → Seat → Bool
is_same_seat North North = true
is_same_seat East East = true
is_same_seat South South = true
is_same_seat West West = true
is_same_seat _ _ = false

-- whether two sides are the same
abbrev pub is_same_side : Side → Side → Bool
is_same_side NorthSouth NorthSouth = true
is_same_side EastWest EastWest = true
is_same_side _ _ = false

-- the letters that are printed
abbrev pub seat_letter : Seat → List ℕ
seat_letter North = codes "N"
seat_letter East = codes "E"
seat_letter South = codes "S"
seat_letter West = codes "W"

abbrev pub side_letters : Side → List ℕ
side_letters NorthSouth = codes "NS"
side_letters EastWest = codes "EW"
