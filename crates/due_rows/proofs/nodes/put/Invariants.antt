-- All nodes are joined but the one above, and the leaves are as they were when the loop began.
use Rattle.std.proofs.Common.{◌≡◌, ◌≢◌, ◌+◌, ◌*◌, ◌/◌, ◌<◌, ◌≤◌, ℕ, length, drop}
use Rattle.due_rows.specs.Trees.{IsJoined}
use Rattle.due_rows.proofs.nodes.put.Given as goal

abbrev pub invariant-loop-node : goal.invariant-loop-node
invariant-loop-node l = record {
  joined : (node : ℕ) → 1 ≤ node → 2 * node + 1 < length l.nodes.items → node ≢ l.node / 2 → IsJoined l.nodes.items node;
  leaves : drop l.half l.nodes.items ≡ drop l.half l.initial.nodes.items;
  sized : length l.nodes.items ≡ 2 * l.half;
  within : l.node < 2 * l.half;
  some : 1 ≤ l.node;
}

abbrev pub decreases-loop-node : goal.decreases-loop-node
decreases-loop-node l = l.node
