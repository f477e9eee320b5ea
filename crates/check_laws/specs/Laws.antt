-- Laws of steps, faults and lines, for all graphs.
use Rattle.std.specs.Prelude.{◌≡◌, ◌↔◌, ℕ, ◌<◌, ◌≤◌, List, length, take, Option, Result, ⊤}
use Rattle.cards.specs.declared.suits.Trump.{Trump}
use Rattle.cards.specs.declared.seats.Seat.{Seat}
use Rattle.cards.specs.Deal.{Deal}
use Rattle.pattern_step.specs.declared.pat_cards.PatCard.{PatCard}
use Rattle.pattern_step.specs.Tricks.{played_in_place}
use Rattle.certificate_graph.specs.declared.nodes.Node.{Node}
use Rattle.certificate_graph.specs.declared.versions.Version.{Version}
use Rattle.certificate_graph.specs.declared.versions.Version.TheVariants.{One, Two}
use Rattle.certificate_graph.specs.Trees.{TrickTree, Own, Reply, Leaf}
use Rattle.certificate_graph.specs.Graphs.{GraphShape, IsGraph}
use Rattle.certificate_graph.specs.Extracts.{IsExtract, IsRootIn}
use Rattle.checker.specs.declared.faults.StepFault.{StepFault}
use Rattle.checker.specs.declared.faults.NodeFault.{NodeFault}
use Rattle.checker.specs.declared.hand_faults.HandFault.{HandFault}
use Rattle.checker.specs.declared.entries.Shown.{Shown}
use Rattle.checker.specs.Places.{HasBranchOf, LeadsTo}
use Rattle.checker.specs.Steps.{StepHolds, StepsHold, BeginLine}
use Rattle.checker.specs.Faults.{IsFirstFault, IsGraphFault}
use Rattle.checker.specs.Verdicts.{IsVerdict}

-- a graph has no fault exactly if all its steps hold
abbrev pub HasNoFaultWhereStepsHold : Type 0
HasNoFaultWhereStepsHold =
    (graph : GraphShape) → IsGraph graph → StepsHold graph ↔ ((fault : NodeFault) → IsGraphFault graph fault → ⊥)

-- a place has at most one first fault
abbrev pub HasOneFirstFault : Type 0
HasOneFirstFault =
    (graph : GraphShape) (node : Node) (cards : List PatCard) (tree : TrickTree) (one other : StepFault)
    → IsFirstFault graph node cards tree one → IsFirstFault graph node cards tree other
    → one ≡ other

-- a graph has at most one first fault
abbrev pub HasOneGraphFault : Type 0
HasOneGraphFault =
    (graph : GraphShape) (one other : NodeFault) → IsGraphFault graph one → IsGraphFault graph other → one ≡ other

-- two texts have at most one verdict
abbrev pub HasOneVerdict : Type 0
HasOneVerdict =
    (deal : Deal) (declarer : Seat) (trump : Trump) (tricks : ℕ) (declarer_text defenders_text : List ℕ)
    (one other : Result Shown HandFault)
    → IsVerdict deal declarer trump tricks declarer_text defenders_text one
    → IsVerdict deal declarer trump tricks declarer_text defenders_text other
    → one ≡ other

-- ---- lines
-- if a step holds, the cards that lead to a place of the tree are legal in turn
abbrev pub PlacesAreOnLines : Type 0
PlacesAreOnLines =
    (graph : GraphShape) (node : Node) (cards : List PatCard) (place : TrickTree)
    → StepHolds graph node → LeadsTo node.tree cards place
    → BeginLine node cards

-- The card goes on in the tree: it is the side's card, if the tree has one. At a turn of the opponents in version 2 it
-- has a branch, since legal cards may have none there. Version 1 asks nothing there.
abbrev pub GoesOn : Version → TrickTree → PatCard → Type 0
GoesOn version (Own own below) card = own ≡ card
GoesOn One (Reply branches) card = ⊤
GoesOn Two (Reply branches) card = HasBranchOf branches card
GoesOn version (Leaf children) card = ⊤

-- the cards keep to the tree: each goes on in the place to which the cards before it lead
abbrev pub KeepTo : Version → TrickTree → List PatCard → Type 0
KeepTo version tree cards =
    (place : ℕ) (there : TrickTree) → place < length cards → LeadsTo tree (take place cards) there
    → GoesOn version there (played_in_place cards place)

-- if a step holds, each beginning of a line that keeps to the tree leads to a place of it
abbrev pub LinesLeadToPlaces : Type 0
LinesLeadToPlaces =
    (graph : GraphShape) (node : Node) (cards : List PatCard)
    → StepHolds graph node → length cards ≤ 4 → BeginLine node cards → KeepTo graph.version node.tree cards
    → (place : TrickTree) × LeadsTo node.tree cards place

-- ---- other roots
-- if the steps of a graph hold, so do the steps of the graph that begins with another of its nodes
abbrev pub ExtractsHold : Type 0
ExtractsHold =
    (graph other : GraphShape) (root : Option ℕ)
    → IsRootIn graph.nodes root → IsExtract graph root other → StepsHold graph → StepsHold other

-- ---- versions
-- the graph as one of version 2
abbrev pub as_two : GraphShape → GraphShape
as_two graph = record graph { version = Two }

-- if the steps of a graph of version 1 hold, they hold in version 2
abbrev pub HoldAsTwo : Type 0
HoldAsTwo = (graph : GraphShape) → graph.version ≡ One → StepsHold graph → StepsHold (as_two graph)
