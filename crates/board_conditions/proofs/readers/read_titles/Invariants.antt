-- The games so far were read.
use Rattle.std.proofs.Common.{List, Bool, false, map, length}
use Rattle.pbn_deals.specs.Lines.{without_mark}
use Rattle.pbn_deals.specs.Pieces.{rows_of, Line, AreLines}
use Rattle.board_conditions.specs.Titles.{titles_of, titles_said}
use Rattle.board_conditions.proofs.GamesTaken.{ReadSoFar}
use Rattle.board_conditions.proofs.readers.read_titles.Given as goal

abbrev pub invariant-loop-rest : goal.invariant-loop-rest
invariant-loop-rest l =
    (lines : List Line) (last : Bool) → AreLines false (rows_of (without_mark l.fn.text)) lines last → ReadSoFar titles_of lines (map titles_said l.list.items) l.rest

abbrev pub decreases-loop-rest : goal.decreases-loop-rest
decreases-loop-rest l = length l.rest
