-- The boards so far that have a deal are counted.
use Rattle.std.proofs.Common.{◌≡◌, ◌≤◌, take, count_by}
use Rattle.std.specs.Prelude.{is_some}
use Rattle.board_subcommands.proofs.reports.count_deals.Given as goal

abbrev pub invariant-loop-board : goal.invariant-loop-board
invariant-loop-board l = record {
  counted : l.count ≡ count_by (λ board. is_some board.deal) (take l.board-index l.boards);
  bound : l.count ≤ l.board-index;
}
