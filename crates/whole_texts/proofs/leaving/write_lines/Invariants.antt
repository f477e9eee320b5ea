-- What is left of the lines so far has gone out.
use Rattle.std.proofs.Common.{List, Bool, length}
use Rattle.pbn_deals.specs.Pieces.{rows_of, Line, AreLines}
use Rattle.whole_texts.proofs.LinesGo.{LinesGo}
use Rattle.whole_texts.proofs.leaving.write_lines.Given as goal

abbrev pub invariant-loop-row : goal.invariant-loop-row
invariant-loop-row g l =
    (those : List Line) (is_open : Bool) → AreLines l.fn.before.is_open (rows_of l.fn.lines) those is_open
    → LinesGo l.fn.renews (g.S.Sink.state l.fn.sink) (g.S.Sink.state l.sink) l.fn.drops_counts l.fn.before l.before those is_open l.rest

abbrev pub decreases-loop-row : goal.decreases-loop-row
decreases-loop-row g l = length l.rest
