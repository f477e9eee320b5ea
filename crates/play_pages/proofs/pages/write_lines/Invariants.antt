-- The sink has the lines so far.
use Rattle.play_pages.proofs.PieceLaws.{HaveGone}
use Rattle.play_pages.proofs.pages.write_lines.Given as goal

abbrev pub invariant-loop-place : goal.invariant-loop-place
invariant-loop-place g l = HaveGone l.mistakes l.lines l.place (g.S.Sink.state l.fn.sink) (g.S.Sink.state l.sink)
