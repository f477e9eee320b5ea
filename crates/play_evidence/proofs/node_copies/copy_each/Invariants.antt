-- The nodes so far were copied.
use Rattle.std.proofs.Common.{◌≡◌, take}
use Rattle.play_evidence.proofs.node_copies.copy_each.Given as goal

abbrev pub invariant-loop-node : goal.invariant-loop-node
invariant-loop-node l = l.copies.items ≡ take l.node-index l.nodes
