-- The par contracts, and their list.
use Rattle.std.specs.Prelude.{◌≡◌, ◌⊎◌, ◌↔◌, ℕ, ◌<◌, ℤ, ◌≤ℤ◌, List, map, AllPairs, Contains, Some, if◌then◌else◌}
use Rattle.std.specs.Prelude.{nat_lt}
use Rattle.cards.specs.declared.seats.Seat.{Seat}
use Rattle.cards.specs.declared.seats.Side.{Side}
use Rattle.cards.specs.declared.seats.Side.TheVariants.{NorthSouth, EastWest}
use Rattle.cards.specs.declared.suits.Trump.{Trump}
use Rattle.cards.specs.Seats.{other_side}
use Rattle.par.specs.declared.bids.Bid.{Bid}
use Rattle.par.specs.declared.bids.Level.{Level}
use Rattle.par.specs.Bids.{Supersedes, level_number}
use Rattle.par.specs.declared.vulnerable_sides.VulnerableSides.{VulnerableSides}
use Rattle.par.specs.declared.contracts.Contract.{Contract}
use Rattle.par.specs.declared.contracts.Declarers.{Declarers}
use Rattle.par.specs.declared.contracts.Declarers.TheVariants.{Either, Only}
use Rattle.par.specs.declared.contracts.ParContract.{ParContract}
use Rattle.par.specs.FinalScores.{first_hand, second_hand, final_outcome, final_doubling, final_score, gain_of}

-- the other side gains no more by a higher contract of its own
abbrev pub IsUnbeaten : (Contract → ℤ) → Contract → Type 0
IsUnbeaten final contract =
    (higher : Bid) → Supersedes higher contract.bid
    → final (record { side = other_side contract.side; bid = higher })
    ≤ℤ gain_of final (other_side contract.side) (Some contract)

-- what North and South gain by the contract is par, and no higher contract is better for the other side
pub record Stands (final : Contract → ℤ) (par : ℤ) (contract : Contract) : Type 0 where
  pub score : gain_of final NorthSouth (Some contract) ≡ par
  pub unbeaten : IsUnbeaten final contract

-- the same at another level
abbrev pub at_level : Contract → Level → Contract
at_level contract level =
    record { side = contract.side; bid = record { level = level; denomination = contract.bid.denomination } }

-- a lower contract of the side in the denomination stands
abbrev pub StandsLower : (Contract → ℤ) → ℤ → Contract → Type 0
StandsLower final par contract =
    (level : Level) × (level_number level < level_number contract.bid.level)
    × Stands final par (at_level contract level)

-- A par contract stands, and no lower contract of the side in the denomination does.
pub record IsParContract (final : Contract → ℤ) (par : ℤ) (contract : Contract) : Type 0 where
  pub stands : Stands final par contract
  pub lowest : StandsLower final par contract → ⊥

-- the order of the list: the highest bid first, and of one bid the contract of North and South before that of East
-- and West
abbrev pub IsListedBefore : Contract → Contract → Type 0
IsListedBefore contract other =
    Supersedes contract.bid other.bid
    ⊎ ((contract.bid ≡ other.bid) × (contract.side ≡ NorthSouth) × (other.side ≡ EastWest))

-- who declares for the side: the better hand, or either hand if both take equally many tricks
abbrev pub declarers_of : (Seat → Trump → ℕ) → Side → Trump → Declarers
declarers_of tricks side denomination =
    let first = tricks (first_hand side) denomination in
    let second = tricks (second_hand side) denomination in
    if nat_lt second first then Only (first_hand side)
    else (if nat_lt first second then Only (second_hand side) else Either side)

-- a contract as it is printed
abbrev pub as_printed : (Seat → Trump → ℕ) → Contract → ParContract
as_printed tricks contract =
    record {
      declarers = declarers_of tricks contract.side contract.bid.denomination;
      bid = contract.bid;
      doubling = final_doubling (final_outcome tricks contract);
      outcome = final_outcome tricks contract;
    }

-- The list has exactly the par contracts for this par, in their order.
pub record AreParContracts
    (tricks : Seat → Trump → ℕ) (vulnerable : VulnerableSides) (par : ℤ) (list : List ParContract) : Type 0 where
  pub contracts : List Contract
  pub exactly :
      (contract : Contract) →
      Contains contracts contract ↔ IsParContract (final_score tricks vulnerable) par contract
  pub in_order : AllPairs IsListedBefore contracts
  pub printed : list ≡ map (as_printed tricks) contracts
