-- The lines so far were read.
use Rattle.std.proofs.Common.{List, Bool, false, length}
use Rattle.pbn_deals.specs.Lines.{without_mark}
use Rattle.pbn_deals.specs.Pieces.{rows_of, Line, AreLines}
use Rattle.board_conditions.proofs.AllLines.{AllSoFar}
use Rattle.board_conditions.proofs.readers.first_titles.Given as goal

abbrev pub invariant-loop-row : goal.invariant-loop-row
invariant-loop-row l =
    (lines : List Line) (last : Bool) → AreLines false (rows_of (without_mark l.fn.text)) lines last → AllSoFar lines last l.game

abbrev pub decreases-loop-row : goal.decreases-loop-row
decreases-loop-row l = length l.game.rest.now
