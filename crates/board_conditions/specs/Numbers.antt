-- The dealer and the vulnerability of a board by its number (Law 2).
use Rattle.std.specs.Prelude.{ℕ, zero, suc, ◌+◌, ◌%◌, List, [], ◌∷◌, length, Option, None, if◌then◌else◌}
use Rattle.std.specs.Char.{is_ascii_digit}
use Rattle.std.specs.List.{list_all, slice_get}
use Rattle.std.specs.Str.Parse.{digits_value}
use Rattle.cards.specs.declared.seats.Seat.{Seat}
use Rattle.cards.specs.declared.seats.Seat.TheVariants.{North, East, South, West}
use Rattle.par.specs.declared.vulnerable_sides.VulnerableSides.{VulnerableSides}
use Rattle.par.specs.declared.vulnerable_sides.VulnerableSides.TheVariants.{Neither, NorthSouth, EastWest, Both}

-- the number that a board's name is in decimal digits; 0, which no board has, if the name is none
abbrev pub number_of : List ℕ → ℕ
number_of name = if list_all is_ascii_digit name then digits_value 10 name else 0

-- the dealers of boards 1 to 4
abbrev pub dealers : List Seat
dealers = North ∷ East ∷ South ∷ West ∷ []

-- the vulnerability of boards 1 to 16
abbrev pub vulnerabilities : List VulnerableSides
vulnerabilities =
    Neither ∷ NorthSouth ∷ EastWest ∷ Both ∷
    NorthSouth ∷ EastWest ∷ Both ∷ Neither ∷
    EastWest ∷ Both ∷ Neither ∷ NorthSouth ∷
    Both ∷ Neither ∷ NorthSouth ∷ EastWest ∷ []

-- what the board with this number has, where the list is that of the first boards and begins again at its end
abbrev pub in_turn : {X : Type 0} → List X → ℕ → Option X
in_turn list zero = None
in_turn list (suc before) = slice_get list (before % length list)

-- the board from 1 to 16 that is as the board with this number
abbrev pub in_cycle : ℕ → ℕ
in_cycle zero = 0
in_cycle (suc before) = before % 16 + 1
