-- By what boards with the same deal are found: the holders of the cards, each a number.
use Rattle.std.specs.Prelude.{◌≡◌, ℕ, List, map, Bool, ◌&&◌, Option, None, Some, is_none, if◌then◌else◌, nat_eq, nat_lt}
use Rattle.std.specs.List.{position_or_len}
use Rattle.std.specs.Cmp.Lexicographic.{pointwise}
use Rattle.cards.specs.Deal.{Deal}
use Rattle.cards.specs.declared.seats.Seat.{Seat}
use Rattle.cards.specs.declared.seats.Seat.TheVariants.{North, East, South, West}
use Rattle.pbn_deals.specs.declared.boards.Board.{Board}
use Rattle.lease_book.specs.Twins.{is_dealt}

abbrev pub holder_number : Option Seat → ℕ
holder_number None = 0
holder_number (Some North) = 1
holder_number (Some East) = 2
holder_number (Some South) = 3
holder_number (Some West) = 4

-- the holders of a deal, by the cards' numbers
abbrev pub holders_of : Deal → List ℕ
holders_of deal = map holder_number deal

-- whether the holders are the same
abbrev pub are_same_holders : List ℕ → List ℕ → Bool
are_same_holders = pointwise nat_eq

-- the number that was noted, or this one
abbrev pub noted_or : Option ℕ → ℕ → ℕ
noted_or None number = number
noted_or (Some first) number = first

-- what is noted under other holders once a number is noted under these, where none was
abbrev pub noted_after : Option ℕ → List ℕ → ℕ → List ℕ → Option ℕ → Option ℕ
noted_after old holders number others noted =
    if is_none old && are_same_holders holders others then Some number else noted

-- the number of the first board with a deal, if it is before this one
abbrev pub first_before : List Board → ℕ → Deal → Option ℕ
first_before boards number deal =
    let first = position_or_len (is_dealt deal) boards in
    if nat_lt first number then Some first else None

-- what is noted of the boards before this one: under the holders of each deal the first board with it
abbrev pub AreNoted : List Board → ℕ → (List ℕ → Option ℕ) → Type 0
AreNoted boards number noted = (deal : Deal) → noted (holders_of deal) ≡ first_before boards number deal
