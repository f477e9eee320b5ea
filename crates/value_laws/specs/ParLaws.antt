-- Laws of par, for every board.
use Rattle.std.specs.Prelude.{◌≡◌, ◌≢◌, ℕ, ℤ, pos}
use Rattle.cards.specs.declared.seats.Seat.{Seat}
use Rattle.cards.specs.declared.suits.Trump.{Trump}
use Rattle.par.specs.declared.vulnerable_sides.VulnerableSides.{VulnerableSides}
use Rattle.par.specs.declared.contracts.Contract.{Contract}
use Rattle.par.specs.FinalScores.{final_score}
use Rattle.par.specs.Par.{IsPar}
use Rattle.par.specs.ParContracts.{IsParContract}

-- a board has one par
abbrev pub HasOnePar : Type 0
HasOnePar =
    (tricks : Seat → Trump → ℕ) (dealer : Seat) (vulnerable : VulnerableSides) (one other : ℤ) →
    IsPar tricks dealer vulnerable one → IsPar tricks dealer vulnerable other → one ≡ other

-- if par isn't 0, there is a par contract
abbrev pub HasParContract : Type 0
HasParContract =
    (tricks : Seat → Trump → ℕ) (dealer : Seat) (vulnerable : VulnerableSides) (par : ℤ) →
    IsPar tricks dealer vulnerable par → par ≢ pos 0
    → (contract : Contract) × IsParContract (final_score tricks vulnerable) par contract
