-- The lines so far were taken.
use Rattle.std.proofs.Common.{◌≤◌, List, Bool, false, length}
use Rattle.pbn_deals.specs.Pieces.{rows_of, Line, AreLines}
use Rattle.recorded_plays.proofs.GamesTaken.{SoFar}
use Rattle.recorded_plays.proofs.readers.first_game.Given as goal

abbrev pub invariant-loop-row : goal.invariant-loop-row
invariant-loop-row l = record {
  so_far : (lines : List Line) (last : Bool) → AreLines false (rows_of l.fn.text) lines last → SoFar lines last l.game l.rest;
  within : length l.rest ≤ length l.fn.text;
}

abbrev pub decreases-loop-row : goal.decreases-loop-row
decreases-loop-row l = length l.rest
