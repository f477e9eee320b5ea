-- Nodes whose trees stand in one row, one after another.
use Rattle.std.specs.Prelude.{◌≡◌, ℕ, Bool, false, true, List, [], ◌∷◌, ◌++◌, length, map}
use Rattle.certificate_graph.specs.declared.bare_nodes.BareNode.{BareNode}
use Rattle.certificate_graph.specs.declared.nodes.Node.{Node}
use Rattle.certificate_graph.specs.declared.rows.Token.{Token}
use Rattle.certificate_graph.specs.Graphs.{IsNode}
use Rattle.certificate_graph.specs.Rows.{tree_row}
use Rattle.certificate_graph.specs.Texts.{node_text}

-- a node without its tree
abbrev pub bare : Node → BareNode
bare node =
    record { pattern = node.pattern; lead = node.lead; need = node.need; count = length (tree_row node.tree) }

-- this node with the tree of this row
pub record IsWithRow (said : BareNode) (row : List Token) (node : Node) : Type 0 where
  pub pattern : node.pattern ≡ said.pattern
  pub lead : node.lead ≡ said.lead
  pub need : node.need ≡ said.need
  pub tree : tree_row node.tree ≡ row

-- the rows of their trees
abbrev pub trees_row : List Node → List Token
trees_row [] = []
trees_row (node ∷ rest) = tree_row node.tree ++ trees_row rest

-- the nodes that these are without their trees, whose rows are this one
pub record AreOf (bares : List BareNode) (row : List Token) (nodes : List Node) : Type 0 where
  pub bare : bares ≡ map bare nodes
  pub trees : row ≡ trees_row nodes

abbrev pub SomeAreOf : List BareNode → List Token → Type 0
SomeAreOf bares row = (nodes : List Node) × AreOf bares row nodes

-- a list gets those nodes at its end
abbrev pub Gets : List BareNode → List Token → List Node → List Node → Type 0
Gets bares row before after = (nodes : List Node) × AreOf bares row nodes × (after ≡ before ++ nodes)

-- it gets them, or there are none and it stays
abbrev pub MayGet : List BareNode → List Token → List Node → List Node → Bool → Type 0
MayGet bares row before after true = Gets bares row before after
MayGet bares row before after false = (SomeAreOf bares row → ⊥) × (after ≡ before)

-- ---- nodes in work: the last of them still wait for their trees
abbrev pub Holds : List Node → List BareNode → List Token → List Node → Type 0
Holds nodes bares row all = (last : List Node) × AreOf bares row last × (all ≡ nodes ++ last)

-- the line of this node stands before the rest, and the row has got its tree
pub record ReadsNode (count : ℕ) (text : List ℕ) (row : List Token) (said : BareNode) (rest : List ℕ)
    (grown : List Token)
    : Type 0 where
  pub node : Node
  pub is_node : IsNode count node
  pub is : text ≡ node_text node rest
  pub bare : said ≡ bare node
  pub tree : grown ≡ row ++ tree_row node.tree
