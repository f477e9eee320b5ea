-- The text that is left of lines, and what is known behind it.
use Rattle.std.specs.Prelude.{◌≡◌, ℕ, Bool, true, false, List, [], ◌∷◌, Option, Result, IfOk, if◌then◌else◌}
use Rattle.cards.specs.declared.devices.DeviceFault.{DeviceFault}
use Rattle.cards.specs.Devices.{Device, Writes}
use Rattle.pbn_deals.specs.Pieces.{Kind, Gap, Escaped, OfGame, Line}
use Rattle.whole_texts.specs.OldTables.{left_pieces, table_behind_line, is_count}
use Rattle.whole_texts.specs.LineEnds.{last_of}
use Rattle.whole_texts.specs.declared.leaving.Before.{Before}
use Rattle.tables.specs.declared.results.Renews.{Renews}

abbrev pub kind_left : Renews → Bool → Kind → Kind
kind_left old in_table (Gap bytes) = Gap bytes
kind_left old in_table (Escaped bytes) = Escaped bytes
kind_left old in_table (OfGame pieces) = OfGame (left_pieces old in_table pieces)

-- lines without those that tell how many results were known, wherever they stand
abbrev pub without_any_count : Renews → List Line → List Line
without_any_count old [] = []
without_any_count old (line ∷ lines) =
    if is_count old line.kind then without_any_count old lines else (line ∷ without_any_count old lines)

-- such lines go, or stay
abbrev pub kept : Renews → Bool → List Line → List Line
kept old true lines = without_any_count old lines
kept old false lines = lines

-- whether section data behind the lines is a table's
abbrev pub tables_behind : Renews → Bool → List Line → Bool
tables_behind old in_table [] = in_table
tables_behind old in_table (line ∷ lines) = tables_behind old (table_behind_line old in_table line.kind) lines

-- the text was written behind a text with this last byte, and its own is answered
abbrev pub WritesLast : Device → Device → Option ℕ → List ℕ → Result (Option ℕ) DeviceFault → Type 0
WritesLast old new before text result =
    Writes old new text result × IfOk result (λ last. last ≡ last_of before text)

-- what is known behind a line or several
pub record Passes (last : Option ℕ) (is_open in_table : Bool) (behind : Before) : Type 0 where
  pub opened : behind.is_open ≡ is_open
  pub table : behind.in_table ≡ in_table
  pub ended : behind.last ≡ last

-- the text was written so, and what is known behind it is answered
abbrev pub WritesLeft :
    Device → Device → Option ℕ → List ℕ → Bool → Bool → Result Before DeviceFault → Type 0
WritesLeft old new before text is_open in_table result =
    Writes old new text result × IfOk result (λ behind. Passes (last_of before text) is_open in_table behind)
