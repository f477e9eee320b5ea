-- What a sheet shows.
use Rattle.std.specs.Prelude.{ℕ, List}
use Rattle.pbn_deals.specs.declared.boards.Board.{Board}
use Rattle.board_conditions.specs.declared.conditions.Conditions.{Conditions}
use Rattle.board_conditions.specs.Titles.{TitleValues}
use Rattle.tables.specs.TablesText.{Printed}
use Rattle.sheets.specs.Pages.{sheet_text}

-- what a sheet shows
pub record Shown : Type 0 where
  pub head : TitleValues
  pub boards : List Board
  pub titles : List TitleValues
  pub conditions : List Conditions
  pub printed : ℕ → Printed

abbrev pub page_of : Shown → List ℕ
page_of shown = sheet_text shown.head shown.boards shown.titles shown.conditions shown.printed
