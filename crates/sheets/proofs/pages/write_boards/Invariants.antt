-- What has gone out and what is left make all boards.
use Rattle.std.proofs.Common.{◌≡◌, ◌≤◌, ◌-◌, ℕ, List, ◌++◌, map, length, drop}
use Rattle.cards.specs.Devices.{Adds}
use Rattle.board_conditions.specs.Titles.{titles_said}
use Rattle.sheets.specs.Pages.{boards_text}
use Rattle.sheets.proofs.pages.write_boards.Given as goal

abbrev pub invariant-loop-place : goal.invariant-loop-place
invariant-loop-place g l =
    (l.boards ≡ g.T.Results.boards_of l.results) × (l.place ≤ length l.boards)
    × (gone : List ℕ) × Adds (g.S.Sink.state l.fn.sink) (g.S.Sink.state l.sink) gone
    × (gone ++ boards_text (map titles_said l.titles) l.conditions (g.T.Results.printed_of l.results) (titles_said l.before) l.place (drop l.place (g.T.Results.boards_of l.results))
    ≡ boards_text (map titles_said l.fn.titles) l.fn.conditions (g.T.Results.printed_of l.fn.results) (titles_said l.fn.first) 0 (g.T.Results.boards_of l.fn.results))

abbrev pub decreases-loop-place : goal.decreases-loop-place
decreases-loop-place g l = length l.boards - l.place
