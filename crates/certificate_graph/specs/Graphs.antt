-- What a graph is to every contract: the version, the trump, the side, and the nodes by their numbers.
use Rattle.std.specs.Prelude.{ℕ, ◌+◌, ◌-◌, ◌*◌, ◌<◌, ◌≤◌, List, [], ◌∷◌, length, All, ⊤}
use Rattle.std.specs.List.{AllByRecursion}
use Rattle.cards.specs.declared.suits.Trump.{Trump}
use Rattle.cards.specs.declared.seats.Side.{Side}
use Rattle.cards.specs.Seats.{seat_number}
use Rattle.cards.specs.Pack.{suit_number}
use Rattle.patterns.specs.Shapes.{IsPattern}
use Rattle.pattern_step.specs.declared.pat_cards.PatCard.{PatCard}
use Rattle.pattern_step.specs.declared.pat_cards.PatCard.TheVariants.{Top, Low}
use Rattle.certificate_graph.specs.declared.children.Child.{Child}
use Rattle.certificate_graph.specs.declared.nodes.Node.{Node}
use Rattle.certificate_graph.specs.declared.versions.Version.{Version}
use Rattle.certificate_graph.specs.Trees.{TrickTree, Own, Reply, Leaf, Branches, NoBranch, Branch}

-- a graph of at most a million nodes, of a version, and of a side with a trump
pub record GraphShape : Type 0 where
  pub version : Version
  pub trump : Trump
  pub side : Side
  pub nodes : List Node

-- the place of a card in the order by suit, and in a suit the tops by their places and then the low card
abbrev pub card_place : PatCard → ℕ
card_place (Top suit place) = 14 * suit_number suit + place
card_place (Low suit) = 14 * suit_number suit + 13

-- a suit has at most thirteen tops
abbrev pub IsCard : PatCard → Type 0
IsCard (Top suit place) = place < 13
IsCard (Low suit) = ⊤

-- the seats rise in the order of their numbers, from this one on
abbrev pub SeatsRise : ℕ → List Child → Type 0
SeatsRise least [] = ⊤
SeatsRise least (child ∷ rest) = (least ≤ seat_number child.winner) × SeatsRise (seat_number child.winner + 1) rest

-- A tree with room for so many cards one below another: the cards of branches rise, and so do the seats of a leaf.
abbrev mutual
  pub HasForm : ℕ → TrickTree → Type 0
  HasForm room (Own card tree) = (0 < room) × IsCard card × HasForm (room - 1) tree
  HasForm room (Reply branches) = (0 < room) × HaveForm (room - 1) 0 branches
  HasForm room (Leaf children) = SeatsRise 0 children

  pub HaveForm : ℕ → ℕ → Branches → Type 0
  HaveForm room least NoBranch = ⊤
  HaveForm room least (Branch card tree rest) =
      IsCard card × (least ≤ card_place card) × HasForm room tree × HaveForm room (card_place card + 1) rest

-- a tree of some depth, and branches from some card on
abbrev pub IsTree : TrickTree → Type 0
IsTree tree = (room : ℕ) × HasForm room tree

abbrev pub AreBranches : Branches → Type 0
AreBranches branches = (room : ℕ) × (least : ℕ) × HaveForm room least branches

-- the leaves name nodes below this number
abbrev mutual
  pub NamesBelow : ℕ → TrickTree → Type 0
  NamesBelow count (Own card tree) = NamesBelow count tree
  NamesBelow count (Reply branches) = NameBelow count branches
  NamesBelow count (Leaf children) = AllByRecursion (λ child. child.number < count) children

  pub NameBelow : ℕ → Branches → Type 0
  NameBelow count NoBranch = ⊤
  NameBelow count (Branch card tree rest) = NamesBelow count tree × NameBelow count rest

abbrev pub IsNeed : ℕ → Type 0
IsNeed need = (1 ≤ need) × (need ≤ 13)

-- a node of a graph with so many nodes
pub record IsNode (count : ℕ) (node : Node) : Type 0 where
  pub pattern : IsPattern node.pattern
  pub need : IsNeed node.need
  pub form : HasForm 4 node.tree
  pub children : NamesBelow count node.tree

abbrev pub greatest_count : ℕ
greatest_count = 1000000

-- nodes of one graph
pub record AreNodes (nodes : List Node) : Type 0 where
  pub size : length nodes ≤ greatest_count
  pub each : All (IsNode (length nodes)) nodes

-- what every graph keeps
abbrev pub IsGraph : GraphShape → Type 0
IsGraph graph = AreNodes graph.nodes
