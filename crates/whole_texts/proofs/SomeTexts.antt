-- A text that was read as boards is of lines, so that it can be written with their tables.
use Rattle.std.proofs.Common.{ℕ, List, ◌++◌, Ok, refl, flat_map}
use Rattle.pbn_deals.specs.declared.boards.Board.{Board}
use Rattle.pbn_deals.specs.Pieces.{line_bytes, mark_of}
use Rattle.pbn_deals.specs.Reading.{TextAnswers}
use Rattle.tables.specs.declared.results.Renews.{Renews}
use Rattle.tables.specs.TablesText.{Printed}
use Rattle.whole_texts.proofs.ReadLines.{of_lines}
use Rattle.whole_texts.specs.WholeText.{whole_lines, WholeText}

pub some_text : (old : Renews) (text : List ℕ) (boards : List Board) (results : ℕ → Printed) → TextAnswers text (Ok boards) → (written : List ℕ) × WholeText old text boards results written
some_text old text boards results answer =
    let said = of_lines text boards answer in (
      mark_of text ++ flat_map line_bytes (whole_lines old boards results said.0),
      record { lines = said.0; read = said.1; is = refl },
    )
