-- What a sheet shows of a board's par, if it is printed.
use Rattle.std.specs.Prelude.{ℕ, ◌<◌, ◌^◌, List, [], codes, Option, None, Some, ℤ, unsigned_abs, All}
use Rattle.std.specs.Prelude.{if◌then◌else◌, bytes_eq}
use Rattle.html.specs.Templates.{filled}
use Rattle.par.specs.declared.contracts.ParContract.{ParContract}
use Rattle.par.specs.Texts.{score_text, contracts_text}
use Rattle.tables.specs.declared.pars.BoardPar.{BoardPar}
use Rattle.tables.specs.declared.pars.BoardPar.TheVariants.{Known, NoDealer, NoVulnerability}
use Rattle.par.specs.Texts.{IsSmallResult}
use Rattle.sheets.specs.declared.pars.ParPlace.{ParPlace}
use Rattle.sheets.specs.declared.pars.ParPlace.TheVariants.{Score, Contracts}
use Rattle.sheets.specs.declared.templates.TheConstants.{PAR, PAR_UNKNOWN}
use Rattle.sheets.specs.Facts.{with_value}

-- ---- par
pub record ParValues : Type 0 where
  pub score : ℤ
  pub contracts : List ParContract

-- their numbers are small
abbrev pub AreSmall : ℤ → List ParContract → Type 0
AreSmall score contracts =
    (unsigned_abs score < 2 ^ 16) × All (λ contract. IsSmallResult contract.outcome) contracts

-- ---- the places of par's template
abbrev pub par_place : List ℕ → Option ParPlace
par_place name =
    if bytes_eq name (codes "score") then Some Score else
    (if bytes_eq name (codes "contracts") then Some Contracts else
    None)

abbrev pub par_value_at : ℤ → List ParContract → Option ParPlace → List ℕ
par_value_at score contracts (Some Score) = score_text score
par_value_at score contracts (Some Contracts) = contracts_text contracts
par_value_at score contracts None = []

abbrev pub par_value : ℤ → List ParContract → List ℕ → List ℕ
par_value score contracts name = par_value_at score contracts (par_place name)

-- ---- par, or what isn't known of the board
abbrev pub par_shown : Option BoardPar → List ℕ
par_shown None = []
par_shown (Some (Known dealer vulnerable score contracts)) = filled (par_value score contracts.items) PAR.now
par_shown (Some NoDealer) = with_value PAR_UNKNOWN.now (codes "dealer")
par_shown (Some NoVulnerability) = with_value PAR_UNKNOWN.now (codes "vulnerability")
