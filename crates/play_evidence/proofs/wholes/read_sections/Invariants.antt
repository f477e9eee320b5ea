-- The pieces so far were read.
use Rattle.std.proofs.Common.{◌-◌, ◌≤◌, length}
use Rattle.play_evidence.proofs.WholeLemmas.{IsReadTo}
use Rattle.play_evidence.proofs.wholes.read_sections.Given as goal

abbrev pub invariant-loop-at : goal.invariant-loop-at
invariant-loop-at l = record {
  within : l.at ≤ length l.text;
  read : IsReadTo l.text l.at l.whole;
}

abbrev pub decreases-loop-at : goal.decreases-loop-at
decreases-loop-at l = length l.text - l.at
