-- The cards of the trace so far were played.
use Rattle.dds_calls.proofs.PlayLaws.{AreTracedTo}
use Rattle.dds_calls.proofs.plays.trace_of.Given as goal

abbrev pub invariant-loop-place : goal.invariant-loop-place
invariant-loop-place l = AreTracedTo l.trace l.trick l.play l.place
