-- The cards so far are counted.
use Rattle.std.proofs.Common.{◌≡◌, ◌≤◌, take, sum_by}
use Rattle.play_pages.specs.Counts.{unknown_in}
use Rattle.play_pages.proofs.counts.unknown_by.Given as goal

abbrev pub invariant-loop-line : goal.invariant-loop-line
invariant-loop-line l = record {
  counted : l.unknown ≡ sum_by (unknown_in l.seat) (take l.line-index l.lines);
  bound : l.unknown ≤ l.line-index;
}
