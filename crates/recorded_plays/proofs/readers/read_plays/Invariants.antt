-- The games so far were read.
use Rattle.std.proofs.Common.{List, Bool, false, length}
use Rattle.pbn_deals.specs.Lines.{without_mark}
use Rattle.pbn_deals.specs.Pieces.{rows_of, Line, AreLines}
use Rattle.recorded_plays.proofs.GamesTaken.{ReadSoFar}
use Rattle.recorded_plays.proofs.readers.read_plays.Given as goal

abbrev pub invariant-loop-rest : goal.invariant-loop-rest
invariant-loop-rest l =
    (lines : List Line) (last : Bool) → AreLines false (rows_of (without_mark l.fn.text)) lines last → ReadSoFar lines l.list.items l.rest

abbrev pub decreases-loop-rest : goal.decreases-loop-rest
decreases-loop-rest l = length l.rest
