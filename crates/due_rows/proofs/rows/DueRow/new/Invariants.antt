use Rattle.std.proofs.Common.{◌-◌, ◌≡◌, ◌≤◌, ◌<◌, ◌^◌}
use Rattle.due_rows.proofs.rows.DueRow.new.Given as goal

abbrev pub invariant-loop-half : goal.invariant-loop-half
invariant-loop-half l = record {
  doubled : l.half ≡ 2 ^ l.depth;
  small : l.half ≤ 2 ^ 33;
  deep : l.depth < l.half;
  some : 1 ≤ l.half;
}

abbrev pub decreases-loop-half : goal.decreases-loop-half
decreases-loop-half l = l.count - l.half
