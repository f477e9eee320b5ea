-- The lines so far were taken.
use Rattle.std.proofs.Common.{◌≤◌, List, Bool, false, length}
use Rattle.pbn_deals.specs.Pieces.{rows_of, Line, AreLines}
use Rattle.board_conditions.proofs.GamesTaken.{SoFar}
use Rattle.board_conditions.proofs.readers.first_game.Given as goal

abbrev pub invariant-loop-row : goal.invariant-loop-row
invariant-loop-row l = record {
  so_far : (lines : List Line) (last : Bool) → AreLines false (rows_of l.fn.text) lines last → SoFar lines last l.game;
  within : length l.game.rest.now ≤ length l.fn.text;
}

abbrev pub decreases-loop-row : goal.decreases-loop-row
decreases-loop-row l = length l.game.rest.now
