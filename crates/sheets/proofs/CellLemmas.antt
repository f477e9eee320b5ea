-- What a cell shows stands in a page as it is.
use Rattle.std.proofs.Common.{◌≡◌, ℕ, ◌-◌, ◌<◌, Bool, true, false, cond, List, [], Option, None, Some, sym, ◌∙◌, ap, arith, nat_lt}
use Rattle.std.specs.Fmt.{decimal}
use Rattle.html.specs.Values.{value_text}
use Rattle.sheets.specs.declared.cells.CellPlace.{CellPlace}
use Rattle.sheets.specs.declared.cells.CellPlace.TheVariants.{Level, Tricks}
use Rattle.sheets.specs.CellText.{level_shown, in_parentheses, tricks_shown, cell_place, cell_value_at, cell_value}
use Rattle.sheets.proofs.PlainTexts.{decimal-stays, nothing-stays, parentheses-stay}

level-stays : (tricks : ℕ) (makes : Bool) → tricks < 256 →
    value_text (cond makes (decimal (tricks - 6)) []) ≡ cond makes (decimal (tricks - 6)) []
level-stays tricks true h = decimal-stays (tricks - 6) (omega (arith, h))
level-stays tricks false h = nothing-stays

tricks-stay : (tricks : ℕ) (makes : Bool) → tricks < 256 →
    value_text (cond makes [] (in_parentheses (decimal tricks))) ≡ cond makes [] (in_parentheses (decimal tricks))
tricks-stay tricks true h = nothing-stays
tricks-stay tricks false h = parentheses-stay tricks (omega (arith, h))

pub level-text : (tricks : ℕ) (name : List ℕ) (found : Option CellPlace) → tricks < 256 →
    found ≡ cell_place name → found ≡ Some Level → value_text (cell_value tricks name) ≡ level_shown tricks
level-text tricks name found h is same =
    ap (λ p. value_text (cell_value_at tricks p)) (sym is ∙ same) ∙ level-stays tricks (nat_lt 6 tricks) h

pub tricks-text : (tricks : ℕ) (name : List ℕ) (found : Option CellPlace) → tricks < 256 →
    found ≡ cell_place name → found ≡ Some Tricks → value_text (cell_value tricks name) ≡ tricks_shown tricks
tricks-text tricks name found h is same =
    ap (λ p. value_text (cell_value_at tricks p)) (sym is ∙ same) ∙ tricks-stay tricks (nat_lt 6 tricks) h

pub no-text : (tricks : ℕ) (name : List ℕ) (found : Option CellPlace) →
    found ≡ cell_place name → found ≡ None → value_text (cell_value tricks name) ≡ []
no-text tricks name found is same =
    ap (λ p. value_text (cell_value_at tricks p)) (sym is ∙ same) ∙ nothing-stays
