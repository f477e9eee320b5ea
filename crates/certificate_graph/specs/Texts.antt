-- The text of a graph. Each definition says what one form writes before the rest of the text, so that a text is read
-- from its beginning: a line feed is 10, a blank 32, `(` 40, `)` 41, `.` 46, `/` 47, `a` 97, `x` 120, `{` 123, `}` 125.
use Rattle.std.specs.Prelude.{ℕ, ◌+◌, List, [], ◌∷◌, ◌++◌, length, codes}
use Rattle.std.specs.Fmt.{decimal}
use Rattle.cards.specs.declared.seats.Seat.{Seat}
use Rattle.cards.specs.declared.seats.Seat.TheVariants.{North, East, South, West}
use Rattle.cards.specs.declared.seats.Side.{Side}
use Rattle.cards.specs.declared.suits.Trump.{Trump}
use Rattle.cards.specs.Seats.{seat_letter, side_letters}
use Rattle.cards.specs.Pack.{suit_letter, trump_letters}
use Rattle.patterns.specs.Shapes.{SuitShape, Shape, len_of}
use Rattle.pattern_step.specs.declared.pat_cards.PatCard.{PatCard}
use Rattle.pattern_step.specs.declared.pat_cards.PatCard.TheVariants.{Top, Low}
use Rattle.certificate_graph.specs.declared.children.Child.{Child}
use Rattle.certificate_graph.specs.declared.nodes.Node.{Node}
use Rattle.certificate_graph.specs.declared.versions.Version.{Version}
use Rattle.certificate_graph.specs.declared.versions.Version.TheVariants.{One, Two}
use Rattle.certificate_graph.specs.Trees.{TrickTree, Own, Reply, Leaf, Branches, NoBranch, Branch}
use Rattle.certificate_graph.specs.Graphs.{GraphShape}
use Rattle.cards.specs.Bytes as ascii

-- ---- a tree
-- a card: the letter of its suit, and `a` to `m` for a top, or `x`
abbrev pub card_text : PatCard → List ℕ → List ℕ
card_text (Top suit place) rest = suit_letter suit ++ ((97 + place) ∷ rest)
card_text (Low suit) rest = suit_letter suit ++ (ascii.small_x ∷ rest)

-- a child: the letter of its seat, and the number of the node
abbrev pub child_text : Child → List ℕ → List ℕ
child_text child rest = seat_letter child.winner ++ (decimal child.number ++ rest)

-- children that follow another one, each after a blank, and the closing brace
abbrev pub more_children_text : List Child → List ℕ → List ℕ
more_children_text [] rest = ascii.close_brace ∷ rest
more_children_text (child ∷ more) rest = ascii.blank ∷ child_text child (more_children_text more rest)

-- children with a blank between two, and the closing brace
abbrev pub children_text : List Child → List ℕ → List ℕ
children_text [] rest = ascii.close_brace ∷ rest
children_text (child ∷ more) rest = child_text child (more_children_text more rest)

-- a tree: a card of the side and what follows it; the opponents' cards, each with what follows it, in parentheses; or
-- the children in braces
abbrev mutual
  pub tree_text : TrickTree → List ℕ → List ℕ
  tree_text (Own card tree) rest = card_text card (tree_text tree rest)
  tree_text (Reply branches) rest = ascii.open_paren ∷ branches_text branches rest
  tree_text (Leaf children) rest = ascii.open_brace ∷ children_text children rest

  pub branches_text : Branches → List ℕ → List ℕ
  branches_text NoBranch rest = ascii.close_paren ∷ rest
  branches_text (Branch card tree more) rest = card_text card (tree_text tree (branches_text more rest))

-- ---- a pattern
abbrev pub owners_text : List Seat → List ℕ → List ℕ
owners_text [] rest = rest
owners_text (owner ∷ more) rest = seat_letter owner ++ owners_text more rest

-- a suit: four lengths joined by dots, a slash, and the owners
abbrev pub suit_text : SuitShape → List ℕ → List ℕ
suit_text suit rest =
    decimal (len_of suit North) ++ (ascii.dot ∷ (decimal (len_of suit East) ++ (ascii.dot ∷
    (decimal (len_of suit South) ++ (ascii.dot ∷
    (decimal (len_of suit West) ++ (ascii.slash ∷ owners_text suit.owners rest)))))))

-- four suits with a blank between two
abbrev pub pattern_text : Shape → List ℕ → List ℕ
pattern_text shape rest =
    suit_text shape.spades (ascii.blank ∷ suit_text shape.hearts
    (ascii.blank ∷ suit_text shape.diamonds (ascii.blank ∷ suit_text shape.clubs rest)))

-- ---- lines
-- a lead and a need, with a blank after each
abbrev pub claim_text : Seat → ℕ → List ℕ → List ℕ
claim_text lead need rest = seat_letter lead ++ (ascii.blank ∷ (decimal need ++ (ascii.blank ∷ rest)))

-- a node: its lead, its need, its pattern and its tree, with a blank between two, on a line
abbrev pub node_text : Node → List ℕ → List ℕ
node_text node rest =
    claim_text node.lead node.need
    (pattern_text node.pattern (ascii.blank ∷ tree_text node.tree (ascii.line_feed ∷ rest)))

abbrev pub nodes_text : List Node → List ℕ → List ℕ
nodes_text [] rest = rest
nodes_text (node ∷ more) rest = node_text node (nodes_text more rest)

-- the digit of a version
abbrev pub version_digit : Version → List ℕ
version_digit One = codes "1"
version_digit Two = codes "2"

-- the first four lines
abbrev pub title_text : Version → List ℕ → List ℕ
title_text version rest = codes "DDC " ++ (version_digit version ++ (ascii.line_feed ∷ rest))

abbrev pub trump_text : Trump → List ℕ → List ℕ
trump_text trump rest = codes "trump " ++ (trump_letters trump ++ (ascii.line_feed ∷ rest))

abbrev pub side_text : Side → List ℕ → List ℕ
side_text side rest = codes "side " ++ (side_letters side ++ (ascii.line_feed ∷ rest))

abbrev pub count_text : List ℕ → List ℕ → List ℕ
count_text digits rest = codes "nodes " ++ (digits ++ (ascii.line_feed ∷ rest))

-- a graph: the title with its version, the trump, the side, the number of nodes, and the nodes
abbrev pub graph_text : GraphShape → List ℕ
graph_text graph =
    title_text graph.version (trump_text graph.trump (side_text graph.side
    (count_text (decimal (length graph.nodes)) (nodes_text graph.nodes []))))
