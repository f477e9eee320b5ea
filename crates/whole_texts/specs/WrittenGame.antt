-- A game that is written.
use Rattle.std.specs.Prelude.{ℕ, List, Result, IfOk, ◌≡◌, if◌then◌else◌}
use Rattle.std.specs.Prelude.{drop}
use Rattle.std.specs.List.{flat_map, enumerate_from}
use Rattle.cards.specs.declared.devices.DeviceFault.{DeviceFault}
use Rattle.cards.specs.Devices.{Device, Writes}
use Rattle.pbn_deals.specs.declared.boards.Board.{Board}
use Rattle.pbn_deals.specs.Pieces.{Line, line_bytes}
use Rattle.tables.specs.TablesText.{Printed}
use Rattle.whole_texts.specs.OldTables.{has_deal}
use Rattle.whole_texts.specs.WholeText.{dealt_lines, behind}
use Rattle.tables.specs.declared.results.Renews.{Renews}

-- the boards from this place on, with their places
abbrev pub boards_from : List Board → ℕ → List (ℕ × Board)
boards_from boards place = drop place (enumerate_from 0 boards)

-- what is written of the lines of a game
abbrev pub game_lines : Renews → List ℕ → (ℕ → Printed) → List (ℕ × Board) → List Line → List Line
game_lines renews other results boards lines =
    if has_deal lines then dealt_lines renews other results boards lines else lines

-- the boards behind it
abbrev pub boards_behind : List (ℕ × Board) → List Line → List (ℕ × Board)
boards_behind boards lines = if has_deal lines then behind boards else boards

-- the lines of a game were written, and the place of the next board is answered
abbrev pub WritesGame : Renews →
    Device → Device → List Board → (ℕ → Printed) → ℕ → List ℕ → List Line → Result ℕ DeviceFault → Type 0
WritesGame renews old new boards results place other lines result =
    Writes old new (flat_map line_bytes (game_lines renews other results (boards_from boards place) lines)) result
    × IfOk result (λ next. boards_from boards next ≡ boards_behind (boards_from boards place) lines)
