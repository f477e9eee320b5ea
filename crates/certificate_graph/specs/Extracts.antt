-- The graph that begins with another node of a graph: that one and the first are exchanged, and the leaves name them
-- so.
use Rattle.std.specs.Prelude.{◌≡◌, ℕ, ◌<◌, List, [], map, length, Option, None, Some, slice_get, if◌then◌else◌, nat_eq}
use Rattle.std.specs.Prelude.{⊤}
use Rattle.certificate_graph.specs.declared.children.Child.{Child}
use Rattle.certificate_graph.specs.declared.nodes.Node.{Node}
use Rattle.certificate_graph.specs.Trees.{TrickTree, Own, Reply, Leaf, Branches, NoBranch, Branch}
use Rattle.certificate_graph.specs.Graphs.{GraphShape}

-- the number of a node where this one and the first are exchanged
abbrev pub exchanged : ℕ → ℕ → ℕ
exchanged root number = if nat_eq number 0 then root else (if nat_eq number root then 0 else number)

-- ---- what is renamed: the nodes that leaves name
abbrev pub rename_child : (ℕ → ℕ) → Child → Child
rename_child to child = record { winner = child.winner; number = to child.number }

abbrev mutual
  pub rename_tree : (ℕ → ℕ) → TrickTree → TrickTree
  rename_tree to (Own card tree) = Own card (rename_tree to tree)
  rename_tree to (Reply branches) = Reply (rename_branches to branches)
  rename_tree to (Leaf children) = Leaf (map (rename_child to) children)

  pub rename_branches : (ℕ → ℕ) → Branches → Branches
  rename_branches to NoBranch = NoBranch
  rename_branches to (Branch card tree rest) = Branch card (rename_tree to tree) (rename_branches to rest)

abbrev pub rename_node : (ℕ → ℕ) → Node → Node
rename_node to node =
    record { pattern = node.pattern; lead = node.lead; need = node.need; tree = rename_tree to node.tree }

-- ---- the graph
-- as many nodes, of which the first and this one are exchanged
pub record AreExchanged (root : ℕ) (nodes other : List Node) : Type 0 where
  pub as_many : length other ≡ length nodes
  pub each : (number : ℕ) (node : Node) → slice_get nodes (exchanged root number) ≡ Some node
      → slice_get other number ≡ Some (rename_node (exchanged root) node)

-- the nodes that begin with this one; none where there is none
abbrev pub BeginWith : Option ℕ → List Node → List Node → Type 0
BeginWith None nodes other = other ≡ []
BeginWith (Some root) nodes other = AreExchanged root nodes other

-- the number is that of a node, if there is one
abbrev pub IsRootIn : List Node → Option ℕ → Type 0
IsRootIn nodes None = ⊤
IsRootIn nodes (Some root) = root < length nodes

pub record IsExtract (graph : GraphShape) (root : Option ℕ) (other : GraphShape) : Type 0 where
  pub version_is : other.version ≡ graph.version
  pub trump_is : other.trump ≡ graph.trump
  pub side_is : other.side ≡ graph.side
  pub nodes : BeginWith root graph.nodes other.nodes
