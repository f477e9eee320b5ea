-- What a sheet shows of a result: the level that makes, or else the tricks, in parentheses.
use Rattle.std.specs.Prelude.{ℕ, ◌-◌, List, [], ◌∷◌, ◌++◌, codes, if◌then◌else◌, bytes_eq, nat_lt, Option, None, Some}
use Rattle.std.specs.Fmt.{decimal}
use Rattle.cards.specs.Bytes as ascii
use Rattle.sheets.specs.declared.cells.CellPlace.{CellPlace}
use Rattle.sheets.specs.declared.cells.CellPlace.TheVariants.{Level, Tricks}

abbrev pub level_shown : ℕ → List ℕ
level_shown tricks = if nat_lt 6 tricks then decimal (tricks - 6) else []

abbrev pub in_parentheses : List ℕ → List ℕ
in_parentheses text = ascii.open_paren ∷ (text ++ ascii.close_paren ∷ [])

abbrev pub tricks_shown : ℕ → List ℕ
tricks_shown tricks = if nat_lt 6 tricks then [] else in_parentheses (decimal tricks)

-- ---- the places of a cell's template
abbrev pub cell_place : List ℕ → Option CellPlace
cell_place name =
    if bytes_eq name (codes "level") then Some Level else
    (if bytes_eq name (codes "tricks") then Some Tricks else
    None)

abbrev pub cell_value_at : ℕ → Option CellPlace → List ℕ
cell_value_at tricks (Some Level) = level_shown tricks
cell_value_at tricks (Some Tricks) = tricks_shown tricks
cell_value_at tricks None = []

abbrev pub cell_value : ℕ → List ℕ → List ℕ
cell_value tricks name = cell_value_at tricks (cell_place name)
