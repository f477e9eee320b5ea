-- What follows from the definitions, for all bids and every board.
use Rattle.std.specs.Prelude.{◌≡◌, ℕ, ◌<◌, ◌≤◌, ◌↔◌, pos, ◌<ℤ◌}
use Rattle.cards.specs.declared.seats.Seat.{Seat}
use Rattle.cards.specs.declared.suits.Trump.{Trump}
use Rattle.par.specs.declared.vulnerable_sides.VulnerableSides.{VulnerableSides}
use Rattle.par.specs.declared.bids.Bid.{Bid}
use Rattle.par.specs.declared.scores.Vulnerability.{Vulnerability}
use Rattle.par.specs.declared.scores.Doubling.{Doubling}
use Rattle.par.specs.declared.contracts.Contract.{Contract}
use Rattle.par.specs.Bids.{Supersedes, bid_number}
use Rattle.par.specs.Scores.{score, tricks_bid}
use Rattle.par.specs.FinalScores.{final_score}
use Rattle.par.specs.ParContracts.{IsParContract}

-- a bid supersedes the bids with lower numbers, and no others
abbrev pub AreInOrder : Type 0
AreInOrder = (bid other : Bid) → Supersedes bid other ↔ (bid_number other < bid_number bid)

-- different bids have different numbers
abbrev pub HaveNumbers : Type 0
HaveNumbers = (bid other : Bid) → bid_number bid ≡ bid_number other → bid ≡ other

-- declarer's side scores points if it makes its contract
abbrev pub MadeContractsGain : Type 0
MadeContractsGain =
    (bid : Bid) (doubling : Doubling) (vulnerability : Vulnerability) (tricks : ℕ) →
    tricks_bid bid ≤ tricks → pos 0 <ℤ score bid doubling vulnerability tricks

-- and otherwise its opponents do
abbrev pub FailingContractsLose : Type 0
FailingContractsLose =
    (bid : Bid) (doubling : Doubling) (vulnerability : Vulnerability) (tricks : ℕ) →
    tricks < tricks_bid bid → score bid doubling vulnerability tricks <ℤ pos 0

-- if par is 0, there is none
abbrev pub NoneAtZero : Type 0
NoneAtZero =
    (tricks : Seat → Trump → ℕ) (vulnerable : VulnerableSides) (contract : Contract) →
    IsParContract (final_score tricks vulnerable) (pos 0) contract → ⊥
