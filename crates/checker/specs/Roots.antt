-- A graph, and the node that is read as its first.
use Rattle.std.specs.Prelude.{ℕ, List, [], ◌∷◌, Option, None, Some, slice_get}
use Rattle.certificate_graph.specs.declared.nodes.Node.{Node}
use Rattle.certificate_graph.specs.Graphs.{GraphShape}

-- a graph, and the number of its root, the node read as its first; without a root it is read as a graph without nodes
pub record RootedShape : Type 0 where
  pub graph : GraphShape
  pub root : Option ℕ

abbrev pub first_number : List Node → Option ℕ
first_number [] = None
first_number (node ∷ rest) = Some 0

-- the graph of a text: its root is node 0, or none if there are no nodes
abbrev pub from_first : GraphShape → RootedShape
from_first graph = record { graph = graph; root = first_number graph.nodes }

-- the node with this number, if there is one
abbrev pub node_at : List Node → Option ℕ → Option Node
node_at nodes None = None
node_at nodes (Some number) = slice_get nodes number

abbrev pub root_of : RootedShape → Option Node
root_of rooted = node_at rooted.graph.nodes rooted.root
