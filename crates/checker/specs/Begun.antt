-- A begun node: some cards of its trick have been played already. They are the path in its tree that was walked. The
-- step is owed only in the places to which the path leads, and below them.
use Rattle.std.specs.Prelude.{List, [], ◌∷◌, ◌++◌, ⊤}
use Rattle.cards.specs.declared.pack.Card.{Card}
use Rattle.cards.specs.Deal.{Deal, IsLayout}
use Rattle.patterns.specs.Shapes.{Shape, IsPattern}
use Rattle.patterns.specs.Holders.{Matches}
use Rattle.pattern_step.specs.declared.pat_cards.PatCard.{PatCard}
use Rattle.pattern_step.specs.LayoutCards.{StandsFor}
use Rattle.play_rules.specs.Legal.{IsLegalHistory}
use Rattle.strategies.specs.Strategies.{CanWin}
use Rattle.certificate_graph.specs.declared.nodes.Node.{Node}
use Rattle.certificate_graph.specs.Trees.{TrickTree}
use Rattle.certificate_graph.specs.Graphs.{GraphShape, IsGraph}
use Rattle.checker.specs.declared.faults.StepFault.{StepFault}
use Rattle.checker.specs.declared.faults.StepFault.TheVariants.{CardNotLegal, TreeShape}
use Rattle.checker.specs.Places.{LeadsTo}
use Rattle.checker.specs.Steps.{IsRightAfter, StepsHold, BeginLine}
use Rattle.checker.specs.Faults.{IfWrong, IsFirstFault}
use Rattle.checker.specs.Soundness.{opening_at}

-- ---- the step
-- the cards are a path in the tree
abbrev pub IsPathIn : TrickTree → List PatCard → Type 0
IsPathIn tree cards = (place : TrickTree) × LeadsTo tree cards place

-- The step holds after these cards: each place to which they lead, and each below, has the right thing.
abbrev pub StepHoldsAfter : GraphShape → Node → List PatCard → Type 0
StepHoldsAfter graph node cards =
    (later : List PatCard) (place : TrickTree) → LeadsTo node.tree (cards ++ later) place
    → IsRightAfter graph node (cards ++ later) place

-- A begun node is right: its cards are a path in its tree, they are legal in turn, and the step holds after them.
pub record IsRightBegun (graph : GraphShape) (node : Node) (cards : List PatCard) : Type 0 where
  pub path : IsPathIn node.tree cards
  pub legal : BeginLine node cards
  pub holds : StepHoldsAfter graph node cards

-- ---- the first fault
-- the first fault of a place to which the cards lead
abbrev pub IsFaultAfter : GraphShape → Node → List PatCard → StepFault → Type 0
IsFaultAfter graph node cards fault =
    (place : TrickTree) × LeadsTo node.tree cards place × IsFirstFault graph node cards place fault

-- The first fault of a begun node: its cards are no path in its tree, or they are not legal in turn, or the step has
-- this fault after them.
abbrev pub IsBegunFault : GraphShape → Node → List PatCard → StepFault → Type 0
IsBegunFault graph node cards =
    IfWrong (IsPathIn node.tree cards → ⊥) TreeShape
    (IfWrong (BeginLine node cards → ⊥) CardNotLegal (IsFaultAfter graph node cards))

-- ---- the worth in play
-- the pattern cards stand for the cards of the layout, one for one
abbrev pub StandForCards : Shape → Deal → List PatCard → List Card → Type 0
StandForCards shape deal [] [] = ⊤
StandForCards shape deal (pat_card ∷ pat_cards) (card ∷ cards) =
    StandsFor shape deal pat_card card × StandForCards shape deal pat_cards cards
StandForCards _ _ _ _ = ⊥

-- A begun node keeps its claim. Take a layout that matches its pattern, and a legal history that its seat leads. If its
-- cards stand for the cards of that history, the side can win the tricks that the node needs after it.
abbrev pub KeepsItsClaimAfter : GraphShape → Node → List PatCard → Type 0
KeepsItsClaimAfter graph node cards =
    (deal : Deal) (history : List Card) → IsLayout deal → Matches node.pattern deal
    → IsLegalHistory (opening_at graph node deal) history → StandForCards node.pattern deal cards history
    → CanWin (opening_at graph node deal) graph.side node.need history

-- if the steps of a graph hold, a begun node that is right beside it keeps its claim
abbrev pub BegunStepsShow : Type 0
BegunStepsShow =
    (graph : GraphShape) (node : Node) (cards : List PatCard)
    → IsGraph graph → StepsHold graph → IsPattern node.pattern → IsRightBegun graph node cards
    → KeepsItsClaimAfter graph node cards
