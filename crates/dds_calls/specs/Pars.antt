-- Par and the par contracts of a table, in DDS's fields.
use Rattle.std.specs.Prelude.{◌≡◌, ◌≢◌, ◌⊎◌, ℕ, ◌-◌, ℤ, pos, ◌≤ℤ◌, unsigned_abs, List, [], ◌++◌}
use Rattle.std.specs.Prelude.{length, map, replicate, slice_index_or}
use Rattle.cards.specs.declared.seats.Seat.{Seat}
use Rattle.cards.specs.declared.seats.Side.TheVariants.{NorthSouth, EastWest}
use Rattle.cards.specs.declared.suits.Trump.{Trump}
use Rattle.cards.specs.Seats.{seat_number}
use Rattle.cards.specs.Orders.{trump_number}
use Rattle.par.specs.declared.vulnerable_sides.VulnerableSides.{VulnerableSides}
use Rattle.par.specs.declared.vulnerable_sides.VulnerableSides.TheVariants as sides
use Rattle.par.specs.declared.scores.ContractResult.{ContractResult}
use Rattle.par.specs.declared.scores.ContractResult.TheVariants.{Made, Down}
use Rattle.par.specs.Bids.{level_number}
use Rattle.par.specs.declared.contracts.Declarers.{Declarers}
use Rattle.par.specs.declared.contracts.Declarers.TheVariants.{Either, Only}
use Rattle.par.specs.declared.contracts.ParContract.{ParContract}
use Rattle.par.specs.Par.{IsPar}
use Rattle.par.specs.ParContracts.{AreParContracts}
use Rattle.dds_calls.specs.Denominations.{strain_number}
use Rattle.dds_calls.specs.Seats.{IsNoSeat}
use Rattle.dds_calls.specs.declared.pars.TableResults.{TableResults}
use Rattle.dds_calls.specs.declared.pars.ContractType.{ContractType}
use Rattle.dds_calls.specs.declared.pars.ParResults.{ParResults}

-- ---- the question
-- the number of a declarer in a row
abbrev pub entry_in : List ℤ → Seat → ℤ
entry_in hands declarer = slice_index_or hands (seat_number declarer) (pos 0)

-- the number of a declarer and a denomination in the table
abbrev pub entry_of : TableResults → Seat → Trump → ℤ
entry_of table declarer denomination =
    entry_in (slice_index_or table.tricks (strain_number denomination) []) declarer

-- this number without its sign: how many tricks the declarer takes in the denomination
abbrev pub tricks_of : TableResults → Seat → Trump → ℕ
tricks_of table declarer denomination = unsigned_abs (entry_of table declarer denomination)

-- the number is 0 to 13
abbrev pub IsTrickCount : ℤ → Type 0
IsTrickCount number = (pos 0 ≤ℤ number) × (number ≤ℤ pos 13)

-- every number of the table is 0 to 13
abbrev pub AreTricks : TableResults → Type 0
AreTricks table = (declarer : Seat) (denomination : Trump) → IsTrickCount (entry_of table declarer denomination)

-- some number of the table is below 0 or above 13
abbrev pub HasStrayNumber : TableResults → Type 0
HasStrayNumber table =
    (declarer : Seat) × (denomination : Trump) × (IsTrickCount (entry_of table declarer denomination) → ⊥)

-- the number of the vulnerable sides
abbrev pub vulnerable_number : VulnerableSides → ℕ
vulnerable_number sides.Neither = 0
vulnerable_number sides.Both = 1
vulnerable_number sides.NorthSouth = 2
vulnerable_number sides.EastWest = 3

-- no vulnerable sides have this number
abbrev pub IsNoVulnerability : ℤ → Type 0
IsNoVulnerability number = (vulnerable : VulnerableSides) → number ≢ pos (vulnerable_number vulnerable)

-- some number is out of range
abbrev pub HasParFault : TableResults → ℤ → ℤ → Type 0
HasParFault table dealer vulnerable = HasStrayNumber table ⊎ (IsNoSeat dealer ⊎ IsNoVulnerability vulnerable)

-- ---- the contracts
-- the number of undertricks, 0 if the contract is made
abbrev pub under_tricks_of : ContractResult → ℤ
under_tricks_of (Made over) = pos 0
under_tricks_of (Down under) = pos under

-- the number of overtricks, 0 if the contract fails
abbrev pub over_tricks_of : ContractResult → ℤ
over_tricks_of (Made over) = pos over
over_tricks_of (Down under) = pos 0

-- the number of a declarer: of one seat alone, or of either seat of a side
abbrev pub seats_number : Declarers → ℕ
seats_number (Only seat) = seat_number seat
seats_number (Either NorthSouth) = 4
seats_number (Either EastWest) = 5

-- a par contract in DDS's fields; the denominations are no-trump 0, spades 1, hearts 2, diamonds 3, clubs 4
abbrev pub contract_of : ParContract → ContractType
contract_of contract =
    record {
      under_tricks = under_tricks_of contract.outcome;
      over_tricks = over_tricks_of contract.outcome;
      level = pos (level_number contract.bid.level);
      denom = pos (trump_number contract.bid.denomination);
      seats = pos (seats_number contract.declarers);
    }

-- a place without a contract is all zeros
abbrev pub no_contract : ContractType
no_contract = record { under_tricks = pos 0; over_tricks = pos 0; level = pos 0; denom = pos 0; seats = pos 0 }

-- the ten places: the contracts in their order, and zeros after them
abbrev pub in_places : List ParContract → List ContractType
in_places list = map contract_of list ++ replicate (10 - length list) no_contract

-- ---- the answer
-- The results have par, and exactly the par contracts. If par is 0, there are no contracts, and the number is 1.
pub record IsParOf
    (tricks : Seat → Trump → ℕ) (dealer : Seat) (vulnerable : VulnerableSides) (results : ParResults) : Type 0 where
  pub score : IsPar tricks dealer vulnerable results.score
  pub list : List ParContract
  pub par_contracts : AreParContracts tricks vulnerable results.score list
  pub places : results.contracts ≡ in_places list
  pub number : results.score ≢ pos 0 → results.number ≡ pos (length list)
  pub passed_out : results.score ≡ pos 0 → (list ≡ []) × (results.number ≡ pos 1)

-- The numbers are in range, and the results have par of the table.
pub record IsParAnswer (table : TableResults) (dealer vulnerable : ℤ) (results : ParResults) : Type 0 where
  pub tricks : AreTricks table
  pub seat : Seat
  pub dealer_is : pos (seat_number seat) ≡ dealer
  pub sides : VulnerableSides
  pub vulnerable_is : vulnerable ≡ pos (vulnerable_number sides)
  pub par : IsParOf (tricks_of table) seat sides results

-- the score, the number and all ten contracts are zeros
abbrev pub IsBlank : ParResults → Type 0
IsBlank results = results ≡ record { score = pos 0; number = pos 0; contracts = replicate 10 no_contract }
