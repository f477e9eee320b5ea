-- The step of a node: one trick, played on the node's pattern. At each turn of the side the tree has one legal card. At
-- each turn of the opponents its branches answer all their legal cards and have no others. After four cards it lists
-- the seats that may win and leave tricks needed, and for each a node that goes on: its pattern covers the cards left,
-- that seat leads, and it promises at least the tricks still needed.
--
-- The version of the graph decides two things: which cards a branch answers, and how the cards left are read.
use Rattle.std.specs.Prelude.{◌≡◌, ◌≢◌, ℕ, ◌-◌, ◌<◌, ◌≤◌, ◌↔◌, List}
use Rattle.std.specs.Prelude.{length, take, Some, All, Contains, slice_get, ◌⊎◌, if◌then◌else◌}
use Rattle.cards.specs.declared.seats.Seat.{Seat}
use Rattle.cards.specs.declared.seats.Side.{Side}
use Rattle.cards.specs.Seats.{seat_in_place, side_of, is_same_side}
use Rattle.patterns.specs.Shapes.{Shape, Covers}
use Rattle.patterns.specs.Completions.{completed}
use Rattle.pattern_step.specs.declared.pat_cards.PatCard.{PatCard}
use Rattle.pattern_step.specs.PatCards.{IsLegal}
use Rattle.pattern_step.specs.Tricks.{played_in_place, suit_led_by, MayWin, IsLeft}
use Rattle.pattern_step.specs.Runs.{IsLowerInRun}
use Rattle.certificate_graph.specs.declared.children.Child.{Child}
use Rattle.certificate_graph.specs.declared.nodes.Node.{Node}
use Rattle.certificate_graph.specs.declared.versions.Version.{Version}
use Rattle.certificate_graph.specs.declared.versions.Version.TheVariants.{One, Two}
use Rattle.certificate_graph.specs.Trees.{TrickTree, Own, Reply, Leaf, Branches}
use Rattle.certificate_graph.specs.Graphs.{GraphShape}
use Rattle.checker.specs.Places.{HasBranchOf, LeadsTo}

-- ---- the turns of a trick
-- the seat that plays after these cards
abbrev pub player_after : Node → List PatCard → Seat
player_after node cards = seat_in_place node.lead (length cards)

-- the card is legal after these cards
abbrev pub MayComeNext : Node → List PatCard → PatCard → Type 0
MayComeNext node cards card = IsLegal node.pattern (player_after node cards) (suit_led_by cards) card

-- the trick goes on after these cards, and the side plays
pub record IsOwnTurn (side : Side) (node : Node) (cards : List PatCard) : Type 0 where
  pub goes_on : length cards < 4
  pub own : side_of (player_after node cards) ≡ side

-- the trick goes on after these cards, and the opponents play
pub record IsOpponentsTurn (side : Side) (node : Node) (cards : List PatCard) : Type 0 where
  pub goes_on : length cards < 4
  pub others : side_of (player_after node cards) ≢ side

-- a branch has a higher card, in a run of the seat
abbrev pub HasHigher : Shape → Seat → Branches → PatCard → Type 0
HasHigher pattern seat branches card =
    (higher : PatCard) × IsLowerInRun pattern seat card higher × HasBranchOf branches higher

-- The branches answer a card of the seat that plays: one of them has that card. In version 2 it is enough that one has
-- a higher card in a run of the seat.
abbrev pub IsAnswered : Version → Shape → Seat → Branches → PatCard → Type 0
IsAnswered One pattern seat branches card = HasBranchOf branches card
IsAnswered Two pattern seat branches card = HasBranchOf branches card ⊎ HasHigher pattern seat branches card

-- the branches answer the legal cards, and have no others
pub record AreAnswers (version : Version) (node : Node) (cards : List PatCard) (branches : Branches) : Type 0 where
  pub each :
      (card : PatCard) → MayComeNext node cards card
      → IsAnswered version node.pattern (player_after node cards) branches card
  pub legal : (card : PatCard) → HasBranchOf branches card → MayComeNext node cards card

-- ---- the end of a trick
-- the tricks still needed if this seat has won the trick
abbrev pub need_after : Side → ℕ → Seat → ℕ
need_after side need winner = if is_same_side (side_of winner) side then need - 1 else need

-- this seat may win the trick, and tricks are still needed if it has
pub record HasToGoOn (graph : GraphShape) (node : Node) (cards : List PatCard) (seat : Seat) : Type 0 where
  pub wins : MayWin node.pattern graph.trump node.lead cards seat
  pub needed : 0 < need_after graph.side node.need seat

-- the seat is listed
abbrev pub IsListed : List Child → Seat → Type 0
IsListed children seat = (number : ℕ) × Contains children (record { winner = seat; number = number })

-- the listed seats are those that may win and leave tricks needed
abbrev pub ListsWinners : GraphShape → Node → List PatCard → List Child → Type 0
ListsWinners graph node cards children = (seat : Seat) → IsListed children seat ↔ HasToGoOn graph node cards seat

-- the rest that a node has to cover: in version 2 it is completed
abbrev pub rest_read : Version → Shape → Shape
rest_read One rest = rest
rest_read Two rest = completed rest

-- the pattern covers the rest that the four cards leave
abbrev pub CoversRest : Version → Shape → Node → List PatCard → Type 0
CoversRest version pattern node cards =
    (rest : Shape) × IsLeft node.pattern node.lead cards rest × Covers pattern (rest_read version rest)

-- a node goes on after the four cards if this seat has won
pub record Continues (graph : GraphShape) (node : Node) (cards : List PatCard) (winner : Seat) (next : Node)
    : Type 0 where
  pub lead : next.lead ≡ winner
  pub need : need_after graph.side node.need winner ≤ next.need
  pub pattern : CoversRest graph.version next.pattern node cards

-- the node that is named goes on
abbrev pub IsRightChild : GraphShape → Node → List PatCard → Child → Type 0
IsRightChild graph node cards child =
    (next : Node) × (slice_get graph.nodes child.number ≡ Some next) × Continues graph node cards child.winner next

pub record IsRightLeaf (graph : GraphShape) (node : Node) (cards : List PatCard) (children : List Child) : Type 0 where
  pub whole : length cards ≡ 4
  pub winners : ListsWinners graph node cards children
  pub each : All (IsRightChild graph node cards) children

-- ---- the step
-- the tree has the right thing in the place after these cards
abbrev pub IsRightAfter : GraphShape → Node → List PatCard → TrickTree → Type 0
IsRightAfter graph node cards (Own card tree) = IsOwnTurn graph.side node cards × MayComeNext node cards card
IsRightAfter graph node cards (Reply branches) =
    IsOpponentsTurn graph.side node cards × AreAnswers graph.version node cards branches
IsRightAfter graph node cards (Leaf children) = IsRightLeaf graph node cards children

-- The step holds: each place of the tree has the right thing, after the cards that lead there.
abbrev pub StepHolds : GraphShape → Node → Type 0
StepHolds graph node =
    (cards : List PatCard) (place : TrickTree) → LeadsTo node.tree cards place → IsRightAfter graph node cards place

-- the steps of all nodes hold
abbrev pub StepsHold : GraphShape → Type 0
StepsHold graph = (number : ℕ) (node : Node) → slice_get graph.nodes number ≡ Some node → StepHolds graph node

-- ---- lines
-- These cards begin a line of the node: they are legal in turn, clockwise from its lead. A whole line has four cards.
abbrev pub BeginLine : Node → List PatCard → Type 0
BeginLine node cards =
    (place : ℕ) → place < length cards
    → IsLegal node.pattern (seat_in_place node.lead place) (suit_led_by (take place cards))
    (played_in_place cards place)
