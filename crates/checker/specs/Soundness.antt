-- The worth of certificates in play: if they are right, the sides have the strategies that they claim.
use Rattle.std.specs.Prelude.{◌≡◌, ℕ, List, [], Some, Contains, slice_get}
use Rattle.cards.specs.declared.suits.Trump.{Trump}
use Rattle.cards.specs.declared.seats.Seat.{Seat}
use Rattle.cards.specs.Deal.{Deal, IsLayout}
use Rattle.patterns.specs.Shapes.{IsPattern}
use Rattle.patterns.specs.Holders.{Matches}
use Rattle.pattern_step.specs.declared.pat_cards.PatCard.{PatCard}
use Rattle.play_rules.specs.History.{Opening}
use Rattle.strategies.specs.Strategies.{CanWin}
use Rattle.strategies.specs.Values.{IsValue}
use Rattle.certificate_graph.specs.declared.children.Child.{Child}
use Rattle.certificate_graph.specs.declared.nodes.Node.{Node}
use Rattle.certificate_graph.specs.Trees.{Leaf}
use Rattle.certificate_graph.specs.Graphs.{GraphShape, IsGraph}
use Rattle.checker.specs.Places.{LeadsTo}
use Rattle.checker.specs.Steps.{StepHolds, StepsHold}
use Rattle.checker.specs.declared.entries.Shown.{Shown}
use Rattle.checker.specs.Roots.{RootedShape}
use Rattle.checker.specs.Claims.{ShowValue, IsShown}

-- the opening of a deal with a node's seat to lead
abbrev pub opening_at : GraphShape → Node → Deal → Opening
opening_at graph node deal = record { deal = deal; leader = node.lead; trump = graph.trump }

-- A node keeps its claim: from every layout that matches its pattern, with its seat to lead, the side can win the
-- tricks that it needs.
abbrev pub KeepsItsClaim : GraphShape → Node → Type 0
KeepsItsClaim graph node =
    (deal : Deal) → IsLayout deal → Matches node.pattern deal
    → CanWin (opening_at graph node deal) graph.side node.need []

-- a leaf of the node's tree names the other node
pub record IsNamedBy (graph : GraphShape) (node next : Node) : Type 0 where
  pub cards : List PatCard
  pub children : List Child
  pub child : Child
  pub leaf : LeadsTo node.tree cards (Leaf children)
  pub listed : Contains children child
  pub there : slice_get graph.nodes child.number ≡ Some next

-- One trick: if a node's step holds and the nodes that its leaves name keep their claims, it keeps its claim.
abbrev pub OneStepIsSound : Type 0
OneStepIsSound =
    (graph : GraphShape) (node : Node) → IsGraph graph → IsPattern node.pattern → StepHolds graph node
    → ((next : Node) → IsNamedBy graph node next → KeepsItsClaim graph next)
    → KeepsItsClaim graph node

-- all tricks: if the steps of a graph hold, each of its nodes keeps its claim
abbrev pub GraphsAreSound : Type 0
GraphsAreSound =
    (graph : GraphShape) → IsGraph graph → StepsHold graph
    → (number : ℕ) (node : Node) → slice_get graph.nodes number ≡ Some node → KeepsItsClaim graph node

-- the value that two graphs show for a contract on a layout is its double-dummy value
abbrev pub EntriesAreSound : Type 0
EntriesAreSound =
    (deal : Deal) (declarer : Seat) (trump : Trump) (tricks : ℕ) (declarers defenders : RootedShape)
    → IsLayout deal → IsGraph declarers.graph → IsGraph defenders.graph
    → ShowValue deal declarer trump tricks declarers defenders
    → IsValue deal declarer trump tricks

-- every proof keeps this: some graphs showed the value, and it is the double-dummy value
pub record IsProven (shown : Shown) : Type 0 where
  pub graphs : IsShown shown
  pub value : IsValue shown.layout shown.declarer shown.trump shown.k
