-- The form of a node's line: what its text can say, whether or not it is a node of a graph.
use Rattle.std.specs.Prelude.{◌≡◌, ℕ, ◌^◌, ◌≤◌, length}
use Rattle.cards.specs.declared.seats.Seat.{Seat}
use Rattle.cards.specs.declared.suits.Suit.{Suit}
use Rattle.patterns.specs.Shapes.{SuitShape, Shape, suit_of, len_of}
use Rattle.certificate_graph.specs.declared.nodes.Node.{Node}
use Rattle.certificate_graph.specs.Trees.{TrickTree}
use Rattle.certificate_graph.specs.Graphs.{IsNeed, HasForm, NamesBelow}

-- a suit: four lengths of at most 13, and at most 13 owners
pub record IsSuitForm (suit : SuitShape) : Type 0 where
  pub four : length suit.lens ≡ 4
  pub lens : (seat : Seat) → len_of suit seat ≤ 13
  pub owners : length suit.owners ≤ 13

abbrev pub IsPatternForm : Shape → Type 0
IsPatternForm shape = (suit : Suit) → IsSuitForm (suit_of shape suit)

-- a tree with room for so many cards, and numbers of nodes of at most seven digits
pub record IsTreeForm (room : ℕ) (tree : TrickTree) : Type 0 where
  pub form : HasForm room tree
  pub numbers : NamesBelow (10 ^ 7) tree

-- a node
pub record IsNodeForm (node : Node) : Type 0 where
  pub pattern : IsPatternForm node.pattern
  pub need : IsNeed node.need
  pub tree : IsTreeForm 4 node.tree
