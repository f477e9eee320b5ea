-- The elements and attributes of a sheet of plays do not depend on the names of boards and on contracts. A sheet shows no
-- other text of the games.
use Rattle.std.specs.Prelude.{◌≡◌, ℕ, List, map, Result}
use Rattle.html.specs.Places.{InText, place_at_end}
use Rattle.sheet_reading.specs.Pages.{markup_of}
use Rattle.recorded_plays.specs.declared.plays.RecordedPlay.{RecordedPlay}
use Rattle.recorded_plays.specs.declared.plays.RecordedGame.{RecordedGame}
use Rattle.recorded_plays.specs.declared.plays.Lack.{Lack}
use Rattle.play_pages.specs.declared.lines.PlayLines.{PlayLines}
use Rattle.play_sheets.specs.Pages.{plays_sheet}

-- the play of each game, or what the game lacks
abbrev pub plays_of : List RecordedGame → List (Result RecordedPlay Lack)
plays_of games = map (λ game. game.play) games

-- sheets of the same plays have the same elements and attributes
abbrev pub MarkupIsOurs : Type 0
MarkupIsOurs =
    (games others : List RecordedGame) (lines : ℕ → PlayLines) → plays_of games ≡ plays_of others
    → markup_of (plays_sheet games lines) ≡ markup_of (plays_sheet others lines)

-- a sheet ends outside of its tags
abbrev pub EndsInText : Type 0
EndsInText = (games : List RecordedGame) (lines : ℕ → PlayLines) → place_at_end InText (plays_sheet games lines) ≡ InText
