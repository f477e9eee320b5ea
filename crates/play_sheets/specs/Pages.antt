-- A sheet of plays: its head, and a block for each game that isn't passed over.
use Rattle.std.specs.Prelude.{ℕ, List, ◌++◌, flat_map}
use Rattle.std.specs.List.{enumerate_from}
use Rattle.sheets.specs.declared.templates.TheConstants.{END}
use Rattle.sheets.specs.declared.templates.TheConstants as sheet
use Rattle.recorded_plays.specs.declared.plays.RecordedGame.{RecordedGame}
use Rattle.play_pages.specs.declared.lines.PlayLines.{PlayLines}
use Rattle.play_sheets.specs.declared.templates.TheConstants.{HEAD, NEXT_STYLE, STYLE, BODY}
use Rattle.play_sheets.specs.Games.{game_text}

-- the head, with the style of a sheet and its own
unfoldable pub head_text : List ℕ
head_text = HEAD.now ++ (sheet.STYLE.now ++ (NEXT_STYLE.now ++ (STYLE.now ++ BODY.now)))

unfoldable pub games_text : List RecordedGame → (ℕ → PlayLines) → List ℕ
games_text games lines = flat_map (game_text lines) (enumerate_from 0 games)

unfoldable pub plays_sheet : List RecordedGame → (ℕ → PlayLines) → List ℕ
plays_sheet games lines = head_text ++ (games_text games lines ++ END.now)
