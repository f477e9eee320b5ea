-- The boards so far that are complete are counted.
use Rattle.std.proofs.Common.{◌≡◌, ◌≤◌, take, count_by}
use Rattle.std.specs.List.{enumerate_from}
use Rattle.tables.specs.TablesText.{is_complete}
use Rattle.tables.proofs.tables.count_complete.Given as goal

abbrev pub invariant-loop-place : goal.invariant-loop-place
invariant-loop-place g l = record {
  counted : l.complete ≡ count_by (λ numbered. is_complete (g.T.Results.printed_of l.results numbered.0).results) (take l.place (enumerate_from 0 (g.T.Results.boards_of l.results)));
  bound : l.complete ≤ l.place;
}
