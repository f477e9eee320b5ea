-- When nodes make no graph, and which refusal they get.
use Rattle.std.specs.Prelude.{◌≡◌, ℕ, ◌<◌, ◌≤◌, List, length, take, slice_get, All, Some, Result, Ok, Err}
use Rattle.cards.specs.declared.suits.Trump.{Trump}
use Rattle.cards.specs.declared.seats.Side.{Side}
use Rattle.certificate_graph.specs.declared.nodes.Node.{Node}
use Rattle.certificate_graph.specs.declared.versions.Version.{Version}
use Rattle.certificate_graph.specs.declared.faults.GraphFault.{GraphFault}
use Rattle.certificate_graph.specs.declared.faults.GraphFault.TheVariants.{TooLarge, Need, TreeForm, ChildNumber}
use Rattle.certificate_graph.specs.Graphs.{GraphShape, IsGraph, IsNode, IsNeed, HasForm, NamesBelow, greatest_count}

-- the first fault of a node, in the order of their numbers
abbrev pub IsNodeFault : ℕ → Node → GraphFault → Type 0
IsNodeFault count node TooLarge = ⊥
IsNodeFault count node Need = IsNeed node.need → ⊥
IsNodeFault count node TreeForm = IsNeed node.need × (HasForm 4 node.tree → ⊥)
IsNodeFault count node ChildNumber = IsNeed node.need × HasForm 4 node.tree × (NamesBelow count node.tree → ⊥)

-- the fault of the first node that has one
pub record IsFirstFault (nodes : List Node) (fault : GraphFault) : Type 0 where
  pub number : ℕ
  pub node : Node
  pub there : slice_get nodes number ≡ Some node
  pub wrong : IsNodeFault (length nodes) node fault
  pub before : All (IsNode (length nodes)) (take number nodes)

-- when nodes get each refusal
abbrev pub IsGraphFault : List Node → GraphFault → Type 0
IsGraphFault nodes TooLarge = greatest_count < length nodes
IsGraphFault nodes fault = (length nodes ≤ greatest_count) × IsFirstFault nodes fault

-- the answer for these nodes
abbrev pub MakesGraph : Version → Trump → Side → List Node → Result GraphShape GraphFault → Type 0
MakesGraph version trump side nodes (Ok graph) =
    (graph ≡ record { version = version; trump = trump; side = side; nodes = nodes }) × IsGraph graph
MakesGraph version trump side nodes (Err fault) = IsGraphFault nodes fault
