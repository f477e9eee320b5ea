-- The nodes so far are those that the first numbers name.
use Rattle.std.proofs.Common.{◌≡◌, length, All}
use Rattle.certificate_graph.specs.Graphs.{IsNode}
use Rattle.certificate_graph.proofs.ExtractLemmas.{AreThere}
use Rattle.certificate_graph.proofs.extracting.exchange_nodes.Given as goal

abbrev pub invariant-loop-number : goal.invariant-loop-number
invariant-loop-number l = record {
  as_many : length l.other.items ≡ l.number;
  there : AreThere l.root l.nodes l.number l.other.items;
  each : All (IsNode (length l.nodes)) l.other.items;
}
