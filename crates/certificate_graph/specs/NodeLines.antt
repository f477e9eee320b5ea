-- The line of a node by itself.
use Rattle.std.specs.Prelude.{◌≢◌, List, ℕ}
use Rattle.certificate_graph.specs.declared.nodes.Node.{Node}
use Rattle.certificate_graph.specs.Graphs.{IsNode, greatest_count}
use Rattle.certificate_graph.specs.Texts.{node_text}

-- the text begins with the line of no node that the largest graph could have
abbrev pub LacksNodeLine : List ℕ → Type 0
LacksNodeLine text = (node : Node) (rest : List ℕ) → IsNode greatest_count node → text ≢ node_text node rest
