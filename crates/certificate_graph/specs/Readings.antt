-- The reader's own words: a text begins with a form, or with none.
use Rattle.std.specs.Prelude.{◌≡◌, ℕ, ◌^◌, ◌<◌, ◌≤◌, List, [], ◌∷◌, ◌++◌, length, slice_index, All, ◌⊎◌, ⊤}
use Rattle.std.specs.List.{AllByRecursion}
use Rattle.std.specs.Fmt.{decimal}
use Rattle.std.specs.Char.{digit_value}
use Rattle.std.specs.Str.Parse.{digits_value}
use Rattle.certificate_graph.specs.TextFaults.{IsNumber}
use Rattle.cards.specs.declared.seats.Seat.{Seat}
use Rattle.cards.specs.Seats.{seat_letter, seat_number}
use Rattle.patterns.specs.Shapes.{SuitShape, Shape}
use Rattle.certificate_graph.specs.declared.children.Child.{Child}
use Rattle.certificate_graph.specs.declared.nodes.Node.{Node}
use Rattle.certificate_graph.specs.declared.faults.TextFault.{TextFault}
use Rattle.certificate_graph.specs.declared.faults.TextFault.TheVariants.{Head, TooLarge, OutOfMemory}
use Rattle.pattern_step.specs.declared.pat_cards.PatCard.{PatCard}
use Rattle.certificate_graph.specs.Trees.{TrickTree, Own, Reply, Leaf, Branches}
use Rattle.certificate_graph.specs.Graphs.{IsCard, IsNeed, IsNode, greatest_count, SeatsRise, HaveForm, NameBelow}
use Rattle.certificate_graph.specs.LineForms.{IsSuitForm, IsPatternForm, IsTreeForm}
use Rattle.certificate_graph.specs.Texts.{card_text, child_text, more_children_text, children_text, tree_text}
use Rattle.certificate_graph.specs.Texts.{branches_text, owners_text, suit_text, pattern_text, claim_text, nodes_text}
use Rattle.certificate_graph.specs.Texts.{count_text}
use Rattle.cards.specs.Bytes as ascii

-- a text that begins with no digit
abbrev pub StopsDigits : List ℕ → Type 0
StopsDigits [] = ⊤
StopsDigits (byte ∷ rest) = 10 ≤ digit_value byte

-- a number of at most seven digits
abbrev pub IsShort : ℕ → Type 0
IsShort n = n < 10 ^ 7

-- the text is that of a good thing before the rest
pub record Begins {X : Type 0} (Good : X → Type 0) (spelled : X → List ℕ → List ℕ) (text : List ℕ) (x : X)
    (rest : List ℕ)
    : Type 0 where
  pub good : Good x
  pub is : text ≡ spelled x rest

-- it begins with no good thing
abbrev pub Lacks : {X : Type 0} → (X → Type 0) → (X → List ℕ → List ℕ) → List ℕ → Type 0
Lacks {X} Good spelled text = (x : X) (rest : List ℕ) → Good x → text ≡ spelled x rest → ⊥

-- a number that ends before the rest
pub record BeginsNumber (text : List ℕ) (n : ℕ) (rest : List ℕ) : Type 0 where
  pub short : IsShort n
  pub stops : StopsDigits rest
  pub is : text ≡ decimal n ++ rest

abbrev pub LacksNumber : List ℕ → Type 0
LacksNumber text = (n : ℕ) (rest : List ℕ) → BeginsNumber text n rest → ⊥

abbrev pub Always : {X : Type 0} → X → Type 0
Always x = ⊤

abbrev pub IsLen : ℕ → Type 0
IsLen len = len ≤ 13

abbrev pub seat_text : Seat → List ℕ → List ℕ
seat_text seat rest = seat_letter seat ++ rest

-- a length before this byte
abbrev pub len_text : ℕ → ℕ → List ℕ → List ℕ
len_text byte len rest = decimal len ++ (byte ∷ rest)

-- ---- children
pub record BeginsChild (text : List ℕ) (child : Child) (rest : List ℕ) : Type 0 where
  pub short : IsShort child.number
  pub stops : StopsDigits rest
  pub is : text ≡ child_text child rest

abbrev pub LacksChild : List ℕ → Type 0
LacksChild text = (child : Child) (rest : List ℕ) → BeginsChild text child rest → ⊥

abbrev pub AreShort : List Child → Type 0
AreShort children = AllByRecursion (λ child. IsShort child.number) children

-- children that follow another one, from this seat on
pub record BeginsMore (least : ℕ) (text : List ℕ) (children : List Child) (rest : List ℕ) : Type 0 where
  pub rise : SeatsRise least children
  pub short : AreShort children
  pub is : text ≡ more_children_text children rest

abbrev pub LacksMore : ℕ → List ℕ → Type 0
LacksMore least text = (children : List Child) (rest : List ℕ) → BeginsMore least text children rest → ⊥

-- the children of a leaf
pub record BeginsChildren (text : List ℕ) (children : List Child) (rest : List ℕ) : Type 0 where
  pub rise : SeatsRise 0 children
  pub short : AreShort children
  pub is : text ≡ children_text children rest

abbrev pub LacksChildren : List ℕ → Type 0
LacksChildren text = (children : List Child) (rest : List ℕ) → BeginsChildren text children rest → ⊥

-- ---- trees
-- a card of a branch, and the tree below it
pub record BeginsBranch (room : ℕ) (text : List ℕ) (card : PatCard) (below : TrickTree) (rest : List ℕ) : Type 0 where
  pub of_pack : IsCard card
  pub form : IsTreeForm room below
  pub is : text ≡ card_text card (tree_text below rest)

abbrev pub LacksBranch : ℕ → List ℕ → Type 0
LacksBranch room text =
    (card : PatCard) (below : TrickTree) (rest : List ℕ) → BeginsBranch room text card below rest → ⊥

-- branches from this card on
pub record BeginsBranches (room least : ℕ) (text : List ℕ) (branches : Branches) (rest : List ℕ) : Type 0 where
  pub form : HaveForm room least branches
  pub numbers : NameBelow (10 ^ 7) branches
  pub is : text ≡ branches_text branches rest

abbrev pub LacksBranches : ℕ → ℕ → List ℕ → Type 0
LacksBranches room least text =
    (branches : Branches) (rest : List ℕ) → BeginsBranches room least text branches rest → ⊥

abbrev pub BeginsTree : ℕ → List ℕ → TrickTree → List ℕ → Type 0
BeginsTree room text tree rest = Begins (IsTreeForm room) tree_text text tree rest

abbrev pub LacksTree : ℕ → List ℕ → Type 0
LacksTree room text = (tree : TrickTree) (rest : List ℕ) → BeginsTree room text tree rest → ⊥

-- a leaf after its opening brace
abbrev pub BeginsLeaf : List ℕ → TrickTree → List ℕ → Type 0
BeginsLeaf text (Leaf children) rest = BeginsChildren text children rest
BeginsLeaf text _ rest = ⊥

abbrev pub LacksLeaf : List ℕ → Type 0
LacksLeaf text = (tree : TrickTree) (rest : List ℕ) → BeginsLeaf text tree rest → ⊥

-- a card of the side
abbrev pub BeginsOwn : ℕ → List ℕ → TrickTree → List ℕ → Type 0
BeginsOwn room text (Own card below) rest = BeginsBranch room text card below rest
BeginsOwn room text _ rest = ⊥

abbrev pub LacksOwn : ℕ → List ℕ → Type 0
LacksOwn room text = (tree : TrickTree) (rest : List ℕ) → BeginsOwn room text tree rest → ⊥

-- the opponents' cards after the opening parenthesis
abbrev pub BeginsReply : ℕ → List ℕ → TrickTree → List ℕ → Type 0
BeginsReply room text (Reply branches) rest = BeginsBranches room 0 text branches rest
BeginsReply room text _ rest = ⊥

abbrev pub LacksReply : ℕ → List ℕ → Type 0
LacksReply room text = (tree : TrickTree) (rest : List ℕ) → BeginsReply room text tree rest → ⊥

-- ---- patterns
-- at most so many owners, and a blank
abbrev pub LacksOwners : ℕ → List ℕ → Type 0
LacksOwners room text =
    (owners : List Seat) (rest : List ℕ) → length owners ≤ room → text ≡ owners_text owners (ascii.blank ∷ rest) → ⊥

-- two lengths before these bytes
pub record BeginsTwo (first second : ℕ) (text : List ℕ) (one other : ℕ) (rest : List ℕ) : Type 0 where
  pub low : IsLen one
  pub also : IsLen other
  pub is : text ≡ len_text first one (len_text second other rest)

abbrev pub LacksTwo : ℕ → ℕ → List ℕ → Type 0
LacksTwo first second text = (one other : ℕ) (rest : List ℕ) → BeginsTwo first second text one other rest → ⊥

-- four lengths and the slash
pub record BeginsLens (text : List ℕ) (lens : List ℕ) (rest : List ℕ) : Type 0 where
  pub four : length lens ≡ 4
  pub low : (seat : Seat) → slice_index lens (seat_number seat) ≤ 13
  pub is : text ≡ len_text 46 (slice_index lens 0) (len_text 46 (slice_index lens 1)
      (len_text 46 (slice_index lens 2) (len_text 47 (slice_index lens 3) rest)))

abbrev pub LacksLens : List ℕ → Type 0
LacksLens text = (lens rest : List ℕ) → BeginsLens text lens rest → ⊥

-- a suit and a blank
pub record BeginsSuit (text : List ℕ) (suit : SuitShape) (rest : List ℕ) : Type 0 where
  pub form : IsSuitForm suit
  pub is : text ≡ suit_text suit (ascii.blank ∷ rest)

abbrev pub LacksSuit : List ℕ → Type 0
LacksSuit text = (suit : SuitShape) (rest : List ℕ) → BeginsSuit text suit rest → ⊥

-- two suits with a blank after each
pub record BeginsTwoSuits (text : List ℕ) (first second : SuitShape) (rest : List ℕ) : Type 0 where
  pub form : IsSuitForm first
  pub also : IsSuitForm second
  pub is : text ≡ suit_text first (ascii.blank ∷ suit_text second (ascii.blank ∷ rest))

abbrev pub LacksTwoSuits : List ℕ → Type 0
LacksTwoSuits text = (first second : SuitShape) (rest : List ℕ) → BeginsTwoSuits text first second rest → ⊥

-- a pattern and a blank
pub record BeginsPattern (text : List ℕ) (pattern : Shape) (rest : List ℕ) : Type 0 where
  pub form : IsPatternForm pattern
  pub is : text ≡ pattern_text pattern (ascii.blank ∷ rest)

abbrev pub LacksPattern : List ℕ → Type 0
LacksPattern text = (pattern : Shape) (rest : List ℕ) → BeginsPattern text pattern rest → ⊥

-- ---- nodes
-- a lead and a need, with a blank after each
pub record BeginsClaim (text : List ℕ) (lead : Seat) (need : ℕ) (rest : List ℕ) : Type 0 where
  pub is_need : IsNeed need
  pub is : text ≡ claim_text lead need rest

abbrev pub LacksClaim : List ℕ → Type 0
LacksClaim text = (lead : Seat) (need : ℕ) (rest : List ℕ) → BeginsClaim text lead need rest → ⊥

-- a fault, or memory ran out
abbrev pub MayFail : (TextFault → Type 0) → TextFault → Type 0
MayFail IsFault fault = (fault ≡ OutOfMemory) ⊎ IsFault fault

-- the text is that of so many nodes of one graph
pub record AreAllNodes (count : ℕ) (text : List ℕ) (nodes : List Node) : Type 0 where
  pub all : length nodes ≡ count
  pub each : All (IsNode count) nodes
  pub is : text ≡ nodes_text nodes []

-- ---- the number of nodes
pub record BeginsDigits (text digits rest : List ℕ) : Type 0 where
  pub number : IsNumber digits
  pub is : text ≡ count_text digits rest

abbrev pub LacksDigits : List ℕ → Type 0
LacksDigits text = (digits rest : List ℕ) → BeginsDigits text digits rest → ⊥

-- the text begins with the line of this number
pub record ReadsCount (text : List ℕ) (count : ℕ) (rest : List ℕ) : Type 0 where
  pub digits : List ℕ
  pub begins : BeginsDigits text digits rest
  pub value : digits_value 10 digits ≡ count
  pub within : count ≤ greatest_count

-- the line is not of the form, or its number is too large
abbrev pub IsCountLineFault : List ℕ → TextFault → Type 0
IsCountLineFault text fault =
    ((fault ≡ Head 4) × LacksDigits text) ⊎
    ((digits : List ℕ) × (rest : List ℕ) × BeginsDigits text digits rest ×
    (fault ≡ TooLarge 4) × (greatest_count < digits_value 10 digits))
