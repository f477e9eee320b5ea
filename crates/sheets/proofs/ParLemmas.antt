-- What is shown of par stands in a page as it is.
use Rattle.std.proofs.Common.{◌≡◌, List, Option, None, Some, sym, ◌∙◌, ap}
use Rattle.std.specs.Prelude.{ℤ, ℕ}
use Rattle.par.specs.declared.contracts.ParContract.{ParContract}
use Rattle.html.specs.Values.{value_text}
use Rattle.sheets.specs.declared.pars.ParPlace.{ParPlace}
use Rattle.sheets.specs.declared.pars.ParPlace.TheVariants.{Score, Contracts}
use Rattle.sheets.specs.ParShown.{AreSmall, par_place, par_value_at, par_value}
use Rattle.sheets.proofs.PlainTexts.{nothing-stays}
use Rattle.sheets.proofs.ParPlain.{score-stays, contracts-stay}

par-stays : (score : ℤ) (contracts : List ParContract) (place : Option ParPlace) → AreSmall score contracts →
    value_text (par_value_at score contracts place) ≡ par_value_at score contracts place
par-stays score contracts (Some Score) small = score-stays score small.0
par-stays score contracts (Some Contracts) small = contracts-stay contracts small.1
par-stays score contracts None small = nothing-stays

pub par-text : (score : ℤ) (contracts : List ParContract) (name : List ℕ) (found place : Option ParPlace) →
    AreSmall score contracts → found ≡ par_place name → found ≡ place →
    value_text (par_value score contracts name) ≡ par_value_at score contracts place
par-text score contracts name found place small is same =
    ap (λ p. value_text (par_value_at score contracts p)) (sym is ∙ same) ∙ par-stays score contracts place small
