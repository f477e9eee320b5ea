-- The texts of par, as `EW 110`, and of the par contracts, as `E 5Hx-1, EW 5Cx-1`.
use Rattle.std.specs.Prelude.{ℕ, zero, suc, ◌<◌, ◌^◌, List, [], ◌∷◌, ◌++◌, codes, ℤ, pos, negsuc, unsigned_abs}
use Rattle.std.specs.List.{flat_map}
use Rattle.std.specs.Fmt.{decimal}
use Rattle.cards.specs.declared.seats.Side.{Side}
use Rattle.cards.specs.declared.seats.Side.TheVariants.{NorthSouth, EastWest}
use Rattle.cards.specs.Seats.{seat_letter, side_letters}
use Rattle.cards.specs.Pack.{trump_letters}
use Rattle.par.specs.declared.bids.Bid.{Bid}
use Rattle.par.specs.declared.scores.Doubling.{Doubling}
use Rattle.par.specs.declared.scores.Doubling.TheVariants.{Undoubled, Doubled}
use Rattle.par.specs.declared.scores.ContractResult.{ContractResult}
use Rattle.par.specs.declared.scores.ContractResult.TheVariants.{Made, Down}
use Rattle.par.specs.Bids.{level_number}
use Rattle.par.specs.declared.contracts.Declarers.{Declarers}
use Rattle.par.specs.declared.contracts.Declarers.TheVariants.{Either, Only}
use Rattle.par.specs.declared.contracts.ParContract.{ParContract}

-- the side that gains; North and South if nobody does
abbrev pub gaining_side : ℤ → Side
gaining_side (pos points) = NorthSouth
gaining_side (negsuc points) = EastWest

-- that side, and what it gains
abbrev pub score_text : ℤ → List ℕ
score_text par = side_letters (gaining_side par) ++ (codes " " ++ decimal (unsigned_abs par))

-- the side, or the seat if only one hand declares
abbrev pub declarers_text : Declarers → List ℕ
declarers_text (Either side) = side_letters side
declarers_text (Only seat) = seat_letter seat

-- the number of odd tricks, and the denomination
abbrev pub bid_text : Bid → List ℕ
bid_text bid = decimal (level_number bid.level) ++ trump_letters bid.denomination

abbrev pub doubling_text : Doubling → List ℕ
doubling_text Undoubled = []
doubling_text Doubled = codes "x"

-- the tricks over or under, if there are any
abbrev pub outcome_text : ContractResult → List ℕ
outcome_text (Made zero) = []
outcome_text (Made (suc over)) = codes "+" ++ decimal (suc over)
outcome_text (Down under) = codes "-" ++ decimal under

unfoldable pub contract_text : ParContract → List ℕ
contract_text contract =
    declarers_text contract.declarers
    ++ (codes " "
    ++ (bid_text contract.bid ++ (doubling_text contract.doubling ++ outcome_text contract.outcome)))

-- a contract after another one
abbrev pub next_text : ParContract → List ℕ
next_text contract = codes ", " ++ contract_text contract

-- the contracts in their order, or `Pass` if there are none
abbrev pub contracts_text : List ParContract → List ℕ
contracts_text [] = codes "Pass"
contracts_text (contract ∷ contracts) = contract_text contract ++ flat_map next_text contracts

-- so few tricks over or under that they are a number of sixteen bits
abbrev pub IsSmallResult : ContractResult → Type 0
IsSmallResult (Made over) = over < 2 ^ 16
IsSmallResult (Down under) = under < 2 ^ 16
