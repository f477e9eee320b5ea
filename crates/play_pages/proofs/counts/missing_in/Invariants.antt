-- The cards so far are counted.
use Rattle.std.proofs.Common.{◌≡◌, ◌≤◌, ◌+◌, take, sum_by}
use Rattle.play_pages.specs.Counts.{one_if_unknown}
use Rattle.play_pages.proofs.counts.missing_in.Given as goal

abbrev pub invariant-loop-line : goal.invariant-loop-line
invariant-loop-line l = record {
  counted : l.missing ≡ one_if_unknown l.lines.start + sum_by (λ line. one_if_unknown line.after) (take l.line-index l.cards);
  bound : l.missing ≤ l.line-index + 1;
}
