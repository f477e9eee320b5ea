-- The games so far have gone out.
use Rattle.std.proofs.Common.{List, false, length, flat_map}
use Rattle.pbn_deals.specs.Pieces.{rows_of, Line, line_bytes, AreLines}
use Rattle.whole_texts.specs.WholeText.{first_end, whole_lines}
use Rattle.whole_texts.proofs.GamesGo.{GamesGo}
use Rattle.whole_texts.proofs.whole.write_games.Given as goal

abbrev pub invariant-loop-other : goal.invariant-loop-other
invariant-loop-other g l =
    (lines : List Line) → AreLines false (rows_of l.fn.text) lines false
    → GamesGo (g.T.Results.renews_of l.results) (g.S.Sink.state l.fn.sink) (g.S.Sink.state l.sink) (first_end lines) (g.T.Results.boards_of l.results) (g.T.Results.printed_of l.results)
    (flat_map line_bytes (whole_lines (g.T.Results.renews_of l.results) (g.T.Results.boards_of l.results) (g.T.Results.printed_of l.results) lines)) l.place l.rest

abbrev pub decreases-loop-other : goal.decreases-loop-other
decreases-loop-other g l = length l.rest
