-- The evidence of the plays of a text: the sections of those that have one, in the order of the games.
use Rattle.std.specs.Prelude.{ℕ, List, [], flat_map, Option, None, Some, Result, Ok, Err}
use Rattle.std.specs.List.{enumerate_from}
use Rattle.play_evidence.specs.Sections.{PlaySectionShape}
use Rattle.play_evidence.specs.SectionTexts.{play_section_text}
use Rattle.recorded_plays.specs.declared.plays.RecordedPlay.{RecordedPlay}
use Rattle.recorded_plays.specs.declared.plays.RecordedGame.{RecordedGame}
use Rattle.recorded_plays.specs.declared.plays.Lack.{Lack}
use Rattle.play_pages.specs.declared.lines.PlayLines.{PlayLines}

abbrev pub section_text : Option PlaySectionShape → List ℕ
section_text None = []
section_text (Some section) = play_section_text section

-- the section of a play, if the game has one
abbrev pub evidence_by : Result RecordedPlay Lack → Option PlaySectionShape → List ℕ
evidence_by (Ok play) section = section_text section
evidence_by (Err lack) section = []

abbrev pub game_evidence : (ℕ → PlayLines) → ℕ × RecordedGame → List ℕ
game_evidence lines numbered = evidence_by numbered.1.play (lines numbered.0).section

unfoldable pub evidence_text : List RecordedGame → (ℕ → PlayLines) → List ℕ
evidence_text games lines = flat_map (game_evidence lines) (enumerate_from 0 games)
