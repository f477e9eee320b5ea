-- A layout has one value.
use Rattle.std.specs.Prelude.{◌≡◌, ℕ, ◌-◌}
use Rattle.cards.specs.declared.suits.Trump.{Trump}
use Rattle.cards.specs.declared.seats.Seat.{Seat}
use Rattle.cards.specs.declared.seats.Side.{Side}
use Rattle.cards.specs.declared.seats.Side.TheVariants.{NorthSouth, EastWest}
use Rattle.cards.specs.Seats.{side_of}
use Rattle.cards.specs.Deal.{Deal, IsLayout, size_of}
use Rattle.play_rules.specs.History.{Opening}
use Rattle.strategies.specs.Values.{opening_of, IsValue, IsPlainValue}

-- a contract has one double-dummy value
abbrev pub HasOneValue : Type 0
HasOneValue =
    (deal : Deal) (declarer : Seat) (trump : Trump) (one other : ℕ)
    → IsLayout deal → IsValue deal declarer trump one → IsValue deal declarer trump other → one ≡ other

-- an ending has one value for North and South
abbrev pub HasOnePlainValue : Type 0
HasOnePlainValue =
    (opening : Opening) (one other : ℕ)
    → IsLayout opening.deal → IsPlainValue opening one → IsPlainValue opening other → one ≡ other

-- the tricks of North and South, if this side has `tricks` of all
abbrev pub north_south_of : Side → ℕ → ℕ → ℕ
north_south_of NorthSouth all tricks = tricks
north_south_of EastWest all tricks = all - tricks

-- the plain value is the double-dummy value if North or South declares, otherwise the number of the other tricks
abbrev pub PlainValueIsValue : Type 0
PlainValueIsValue =
    (deal : Deal) (declarer : Seat) (trump : Trump) (tricks plain : ℕ)
    → IsLayout deal → IsValue deal declarer trump tricks → IsPlainValue (opening_of deal declarer trump) plain
    → plain ≡ north_south_of (side_of declarer) (size_of deal) tricks
