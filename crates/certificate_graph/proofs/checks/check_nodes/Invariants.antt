use Rattle.std.proofs.Common.{length, All, take}
use Rattle.certificate_graph.specs.Graphs.{IsNode}
use Rattle.certificate_graph.proofs.checks.check_nodes.Given as goal

abbrev pub invariant-loop-node : goal.invariant-loop-node
invariant-loop-node l = All (IsNode (length l.nodes)) (take l.node-index l.nodes)
