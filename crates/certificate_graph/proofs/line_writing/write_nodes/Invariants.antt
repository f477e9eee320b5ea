-- The nodes so far have gone out, and those that are left make the text whole.
use Rattle.std.proofs.Common.{◌≡◌, ℕ, ◌++◌, [], List, drop}
use Rattle.cards.specs.Devices.{Adds}
use Rattle.certificate_graph.specs.Texts.{nodes_text}
use Rattle.certificate_graph.proofs.line_writing.write_nodes.Given as goal

abbrev pub invariant-loop-node : goal.invariant-loop-node
invariant-loop-node g l = record {
  so_far : List ℕ;
  wrote : Adds (g.S.Sink.state l.initial.sink) (g.S.Sink.state l.sink) so_far;
  rest : so_far ++ nodes_text (drop l.node-index l.nodes) [] ≡ nodes_text l.nodes [];
}
