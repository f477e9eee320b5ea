-- A form before a text is the form, and then the text.
use Rattle.std.proofs.Common.{◌≡◌, ℕ, suc, ◌+◌, ◌<◌, List, [], ◌∷◌, ◌++◌, length, drop, get_or, refl, sym, ◌∙◌, ap, append_assoc, add-one, drop-cons}
use Rattle.std.specs.Fmt.{decimal}
use Rattle.cards.specs.declared.seats.Seat.{Seat}
use Rattle.cards.specs.declared.seats.Seat.TheVariants.{North, East, South, West}
use Rattle.cards.specs.declared.seats.Side.{Side}
use Rattle.cards.specs.declared.suits.Trump.{Trump}
use Rattle.cards.specs.Seats.{seat_letter}
use Rattle.cards.specs.Pack.{suit_letter}
use Rattle.patterns.specs.Shapes.{SuitShape, Shape, len_of}
use Rattle.pattern_step.specs.declared.pat_cards.PatCard.{PatCard}
use Rattle.pattern_step.specs.declared.pat_cards.PatCard.TheVariants.{Top, Low}
use Rattle.certificate_graph.specs.declared.children.Child.{Child}
use Rattle.certificate_graph.specs.declared.nodes.Node.{Node}
use Rattle.certificate_graph.specs.Trees.{TrickTree, Own, Reply, Leaf, Branches, NoBranch, Branch}
use Rattle.certificate_graph.specs.declared.versions.Version.{Version}
use Rattle.certificate_graph.specs.Graphs.{GraphShape}
use Rattle.certificate_graph.specs.Texts.{card_text, child_text, more_children_text, children_text, tree_text, branches_text, owners_text, suit_text, pattern_text, claim_text, node_text, nodes_text, title_text, trump_text, side_text, count_text, graph_text}

-- a piece before a text that is cut in two
pub before : (piece text front rest : List ℕ) → text ≡ front ++ rest → piece ++ text ≡ (piece ++ front) ++ rest
before piece text front rest e = ap (λ t. piece ++ t) e ∙ sym (append_assoc piece front rest)

pub card-cut : (card : PatCard) (front rest : List ℕ) → card_text card (front ++ rest) ≡ card_text card front ++ rest
card-cut (Top suit place) front rest = before (suit_letter suit) ((97 + place) ∷ (front ++ rest)) ((97 + place) ∷ front) rest refl
card-cut (Low suit) front rest = before (suit_letter suit) (120 ∷ (front ++ rest)) (120 ∷ front) rest refl

pub child-cut : (child : Child) (front rest : List ℕ) → child_text child (front ++ rest) ≡ child_text child front ++ rest
child-cut child front rest =
    before (seat_letter child.winner) (decimal child.number ++ (front ++ rest)) (decimal child.number ++ front) rest
    (sym (append_assoc (decimal child.number) front rest))

pub more-cut : (children : List Child) (front rest : List ℕ) → more_children_text children (front ++ rest) ≡ more_children_text children front ++ rest
more-cut [] front rest = refl
more-cut (child ∷ more) front rest =
    ap (λ t. 32 ∷ child_text child t) (more-cut more front rest) ∙ ap (λ t. 32 ∷ t) (child-cut child (more_children_text more front) rest)

pub children-cut : (children : List Child) (front rest : List ℕ) → children_text children (front ++ rest) ≡ children_text children front ++ rest
children-cut [] front rest = refl
children-cut (child ∷ more) front rest =
    ap (λ t. child_text child t) (more-cut more front rest) ∙ child-cut child (more_children_text more front) rest

mutual
  pub tree-cut : (tree : TrickTree) (front rest : List ℕ) → tree_text tree (front ++ rest) ≡ tree_text tree front ++ rest
  tree-cut (Own card tree) front rest = ap (card_text card) (tree-cut tree front rest) ∙ card-cut card (tree_text tree front) rest
  tree-cut (Reply branches) front rest = ap (λ t. 40 ∷ t) (branches-cut branches front rest)
  tree-cut (Leaf children) front rest = ap (λ t. 123 ∷ t) (children-cut children front rest)

  pub branches-cut : (branches : Branches) (front rest : List ℕ) → branches_text branches (front ++ rest) ≡ branches_text branches front ++ rest
  branches-cut NoBranch front rest = refl
  branches-cut (Branch card tree more) front rest =
      ap (λ t. card_text card (tree_text tree t)) (branches-cut more front rest)
      ∙ (ap (card_text card) (tree-cut tree (branches_text more front) rest) ∙ card-cut card (tree_text tree (branches_text more front)) rest)

pub owners-cut : (owners : List Seat) (front rest : List ℕ) → owners_text owners (front ++ rest) ≡ owners_text owners front ++ rest
owners-cut [] front rest = refl
owners-cut (owner ∷ more) front rest =
    before (seat_letter owner) (owners_text more (front ++ rest)) (owners_text more front) rest (owners-cut more front rest)

-- a number and a byte before a text that is cut
number-cut : (n byte : ℕ) (text front rest : List ℕ) → text ≡ front ++ rest → decimal n ++ (byte ∷ text) ≡ (decimal n ++ (byte ∷ front)) ++ rest
number-cut n byte text front rest e = before (decimal n) (byte ∷ text) (byte ∷ front) rest (ap (λ t. byte ∷ t) e)

pub suit-cut : (suit : SuitShape) (front rest : List ℕ) → suit_text suit (front ++ rest) ≡ suit_text suit front ++ rest
suit-cut suit front rest =
    number-cut (len_of suit North) 46 _ _ rest (number-cut (len_of suit East) 46 _ _ rest
    (number-cut (len_of suit South) 46 _ _ rest (number-cut (len_of suit West) 47 _ _ rest (owners-cut suit.owners front rest))))

-- a suit and a blank before a text that is cut
pub next_suit : (suit : SuitShape) (text front rest : List ℕ) → text ≡ front ++ rest → suit_text suit (32 ∷ text) ≡ suit_text suit (32 ∷ front) ++ rest
next_suit suit text front rest e = ap (λ t. suit_text suit (32 ∷ t)) e ∙ suit-cut suit (32 ∷ front) rest

pub pattern-cut : (shape : Shape) (front rest : List ℕ) → pattern_text shape (front ++ rest) ≡ pattern_text shape front ++ rest
pattern-cut shape front rest =
    next_suit shape.spades _ _ rest (next_suit shape.hearts _ _ rest (next_suit shape.diamonds _ _ rest (suit-cut shape.clubs front rest)))

pub claim-cut : (lead : Seat) (need : ℕ) (front rest : List ℕ) → claim_text lead need (front ++ rest) ≡ claim_text lead need front ++ rest
claim-cut lead need front rest =
    before (seat_letter lead) (32 ∷ (decimal need ++ (32 ∷ (front ++ rest)))) (32 ∷ (decimal need ++ (32 ∷ front))) rest
    (ap (λ t. 32 ∷ t) (number-cut need 32 (front ++ rest) front rest refl))

-- the pieces of a node
pub node-parts : (node : Node) → claim_text node.lead node.need [] ++ (pattern_text node.pattern [] ++ ((32 ∷ []) ++ (tree_text node.tree [] ++ (10 ∷ [])))) ≡ node_text node []
node-parts node =
    let tree = tree_text node.tree (10 ∷ []) in
    ap (λ t. claim_text node.lead node.need [] ++ (pattern_text node.pattern [] ++ (32 ∷ t))) (sym (tree-cut node.tree [] (10 ∷ [])))
    ∙ (ap (λ t. claim_text node.lead node.need [] ++ t) (sym (pattern-cut node.pattern [] (32 ∷ tree)))
    ∙ sym (claim-cut node.lead node.need [] (pattern_text node.pattern (32 ∷ tree))))

pub node-cut : (node : Node) (front rest : List ℕ) → node_text node (front ++ rest) ≡ node_text node front ++ rest
node-cut node front rest =
    let tree = tree_text node.tree (10 ∷ front) in
    ap (λ t. claim_text node.lead node.need (pattern_text node.pattern (32 ∷ t))) (tree-cut node.tree (10 ∷ front) rest)
    ∙ (ap (claim_text node.lead node.need) (pattern-cut node.pattern (32 ∷ tree) rest)
    ∙ claim-cut node.lead node.need (pattern_text node.pattern (32 ∷ tree)) rest)

-- the pieces of three lines
pub heading-parts : (version : Version) (trump : Trump) (side : Side) (rest : List ℕ) → title_text version [] ++ (trump_text trump [] ++ (side_text side [] ++ rest)) ≡ title_text version (trump_text trump (side_text side rest))
heading-parts version trump side rest = simp append_assoc

pub heading-cut : (version : Version) (trump : Trump) (side : Side) (rest : List ℕ) → title_text version (trump_text trump (side_text side rest)) ≡ title_text version (trump_text trump (side_text side [])) ++ rest
heading-cut version trump side rest = simp append_assoc

pub count-cut : (digits rest : List ℕ) → count_text digits rest ≡ count_text digits [] ++ rest
count-cut digits rest = simp append_assoc

-- the text of nodes from one place on
pub nodes-from : (nodes : List Node) (i : ℕ) (node : Node) → i < length nodes → node ≡ get_or nodes i node → node_text node [] ++ nodes_text (drop (i + 1) nodes) [] ≡ nodes_text (drop i nodes) []
nodes-from nodes i node within here =
    let at : drop i nodes ≡ node ∷ drop (i + 1) nodes = rw add-one (drop-cons nodes i node within ∙ ap (λ (n : Node). n ∷ drop (suc i) nodes) (sym here)) in
    sym (ap (λ (list : List Node). nodes_text list []) at ∙ node-cut node [] (nodes_text (drop (i + 1) nodes) []))

pub heading-whole : (version : Version) (trump : Trump) (side : Side) → title_text version [] ++ (trump_text trump [] ++ side_text side []) ≡ title_text version (trump_text trump (side_text side []))
heading-whole version trump side = simp append_assoc

-- the pieces of a graph
pub graph-parts : (graph : GraphShape) → title_text graph.version (trump_text graph.trump (side_text graph.side [])) ++ (count_text (decimal (length graph.nodes)) [] ++ nodes_text graph.nodes []) ≡ graph_text graph
graph-parts graph =
    let count = decimal (length graph.nodes) in
    let nodes = nodes_text graph.nodes [] in
    sym (heading-cut graph.version graph.trump graph.side (count_text count [] ++ nodes))
    ∙ ap (λ t. title_text graph.version (trump_text graph.trump (side_text graph.side t))) (sym (count-cut count nodes))

-- a node after others
pub nodes-more : (nodes : List Node) (node : Node) (rest : List ℕ) → nodes_text nodes (node_text node rest) ≡ nodes_text (nodes ++ (node ∷ [])) rest
nodes-more [] node rest = refl
nodes-more (first ∷ more) node rest = ap (node_text first) (nodes-more more node rest)
