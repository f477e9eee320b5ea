-- The cards so far are counted.
use Rattle.std.proofs.Common.{◌≡◌, ◌≤◌, ◌*◌, take, sum_by}
use Rattle.play_pages.specs.Counts.{lost_in}
use Rattle.play_pages.proofs.counts.lost_by.Given as goal

abbrev pub invariant-loop-line : goal.invariant-loop-line
invariant-loop-line l = record {
  counted : l.lost ≡ sum_by (lost_in l.seat) (take l.line-index l.lines);
  bound : l.lost ≤ 255 * l.line-index;
}
