-- The pars of a tournament's boards.
use Rattle.std.specs.Prelude.{◌≡◌, ℕ, false, List, Option, None, Some, IsSome}
use Rattle.std.specs.List.{AllZip, enumerate_from}
use Rattle.cards.specs.declared.seats.Seat.{Seat}
use Rattle.cards.specs.declared.suits.Trump.{Trump}
use Rattle.par.specs.Par.{IsPar}
use Rattle.par.specs.ParContracts.{AreParContracts}
use Rattle.board_conditions.specs.declared.conditions.Conditions.{Conditions}
use Rattle.board_conditions.specs.Games.{HasConditions}
use Rattle.tables.specs.declared.pars.BoardPar.{BoardPar}
use Rattle.tables.specs.declared.pars.BoardPar.TheVariants.{Known, NoDealer, NoVulnerability}
use Rattle.tables.specs.TablesText.{Results, is_complete}
use Rattle.tournaments.specs.BoardTricks.{HasTricks}
use Rattle.tournaments.specs.Pages.{Pars, AreSmallPars}

-- par and the par contracts under these conditions; or the dealer isn't known, or if it is, the vulnerability
abbrev pub IsParUnder : (Seat → Trump → ℕ) → Conditions → BoardPar → Type 0
IsParUnder tricks conditions (Known dealer vulnerable score contracts) =
    (conditions.dealer ≡ Some dealer) × (conditions.vulnerable ≡ Some vulnerable)
    × IsPar tricks dealer vulnerable score × AreParContracts tricks vulnerable score contracts.items
IsParUnder tricks conditions NoDealer = conditions.dealer ≡ None
IsParUnder tricks conditions NoVulnerability = IsSome conditions.dealer × (conditions.vulnerable ≡ None)

-- the par of a board by its results: there is none if some of the twenty are unknown
abbrev pub IsBoardPar : Results → Conditions → Option BoardPar → Type 0
IsBoardPar results conditions None = is_complete results ≡ false
IsBoardPar results conditions (Some par) =
    (tricks : Seat → Trump → ℕ) × HasTricks results tricks × IsParUnder tricks conditions par

-- The pars of the boards of a text, in their order, by their results and by what the text says of their dealers and
-- vulnerabilities. Their numbers are small.
pub record AreBoardPars (text : List ℕ) (results : ℕ → Results) (pars : Pars) : Type 0 where
  pub conditions : List Conditions
  pub has : HasConditions text conditions
  pub are :
      AllZip (λ numbered par. IsBoardPar (results numbered.0) numbered.1 par) (enumerate_from 0 conditions) pars
  pub small : AreSmallPars pars
