-- The contracts of a side, and their final scores. Here and below, `tricks` has the tricks that each declarer takes in
-- each denomination.
use Rattle.std.specs.Prelude.{ℕ, max, ℤ, pos, neg_ℤ, Option, None, Some, if◌then◌else◌}
use Rattle.cards.specs.declared.seats.Seat.{Seat}
use Rattle.cards.specs.declared.seats.Seat.TheVariants.{North, East, South, West}
use Rattle.cards.specs.declared.seats.Side.{Side}
use Rattle.cards.specs.declared.seats.Side.TheVariants.{NorthSouth, EastWest}
use Rattle.cards.specs.declared.suits.Trump.{Trump}
use Rattle.cards.specs.Seats.{is_same_side}
use Rattle.par.specs.declared.scores.Doubling.{Doubling}
use Rattle.par.specs.declared.scores.Doubling.TheVariants.{Undoubled, Doubled}
use Rattle.par.specs.declared.scores.ContractResult.{ContractResult}
use Rattle.par.specs.declared.scores.ContractResult.TheVariants.{Made, Down}
use Rattle.par.specs.Scores.{outcome_of, score}
use Rattle.par.specs.declared.vulnerable_sides.VulnerableSides.{VulnerableSides}
use Rattle.par.specs.declared.contracts.Contract.{Contract}
use Rattle.par.specs.VulnerableSides.{vulnerability_of}

-- the two hands of a side
abbrev pub first_hand : Side → Seat
first_hand NorthSouth = North
first_hand EastWest = East

abbrev pub second_hand : Side → Seat
second_hand NorthSouth = South
second_hand EastWest = West

-- the tricks of the side's better hand in the denomination
abbrev pub most_tricks : (Seat → Trump → ℕ) → Side → Trump → ℕ
most_tricks tricks side denomination =
    max (tricks (first_hand side) denomination) (tricks (second_hand side) denomination)

-- how the contract ends if the better hand declares it
abbrev pub final_outcome : (Seat → Trump → ℕ) → Contract → ContractResult
final_outcome tricks contract =
    outcome_of contract.bid (most_tricks tricks contract.side contract.bid.denomination)

-- a contract is doubled if it fails, and not if it is made
abbrev pub final_doubling : ContractResult → Doubling
final_doubling (Made over) = Undoubled
final_doubling (Down under) = Doubled

-- The final score of a contract, for its own side.
abbrev pub final_score : (Seat → Trump → ℕ) → VulnerableSides → Contract → ℤ
final_score tricks vulnerable contract =
    score contract.bid (final_doubling (final_outcome tricks contract)) (vulnerability_of vulnerable contract.side)
    (most_tricks tricks contract.side contract.bid.denomination)

-- what a side gains by a contract of side `of` that scores these points: the points if the contract is its own, and
-- otherwise minus the points
abbrev pub gain_by : Side → Side → ℤ → ℤ
gain_by side of points = if is_same_side side of then points else neg_ℤ points

-- What a side gains if this contract is the last. `final` has the final score of each contract. Nobody gains if there
-- is no contract.
abbrev pub gain_of : (Contract → ℤ) → Side → Option Contract → ℤ
gain_of final side None = pos 0
gain_of final side (Some contract) = gain_by side contract.side (final contract)
