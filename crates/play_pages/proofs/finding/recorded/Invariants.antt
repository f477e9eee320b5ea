-- The first cards so far are recorded.
use Rattle.std.proofs.Common.{◌≡◌}
use Rattle.play_pages.proofs.RecordedLaws.{recorded_to}
use Rattle.play_pages.proofs.finding.recorded.Given as goal

abbrev pub invariant-loop-place : goal.invariant-loop-place
invariant-loop-place l = l.recorded ≡ recorded_to l.play l.place
