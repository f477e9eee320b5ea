-- The first fault of a graph, in the order in which its text is read.
use Rattle.std.specs.Prelude.{◌≡◌, ◌≢◌, ℕ, ◌<◌, List, [], ◌∷◌, ◌++◌, length, Option, Some, MatchOption, ◌⊎◌, slice_get}
use Rattle.cards.specs.declared.seats.Side.{Side}
use Rattle.pattern_step.specs.declared.pat_cards.PatCard.{PatCard}
use Rattle.certificate_graph.specs.declared.children.Child.{Child}
use Rattle.certificate_graph.specs.declared.nodes.Node.{Node}
use Rattle.certificate_graph.specs.declared.versions.Version.{Version}
use Rattle.certificate_graph.specs.Trees.{TrickTree, Own, Reply, Leaf, Branches, NoBranch, Branch}
use Rattle.certificate_graph.specs.Graphs.{GraphShape}
use Rattle.checker.specs.declared.faults.StepFault.{StepFault}
use Rattle.checker.specs.declared.faults.StepFault.TheVariants.{CardNotLegal, BranchMissing, BranchExtra, LeafWinners}
use Rattle.checker.specs.declared.faults.StepFault.TheVariants.{ChildLead, ChildNeed, ChildPattern, TreeShape}
use Rattle.checker.specs.declared.faults.NodeFault.{NodeFault}
use Rattle.checker.specs.Places.{HasBranch, HasBranchOf, LeadsTo}
use Rattle.checker.specs.Steps.{player_after, IsOwnTurn, IsOpponentsTurn, MayComeNext, IsAnswered, ListsWinners}
use Rattle.checker.specs.Steps.{need_after, CoversRest, IsRightAfter}

-- the fault is `name` if `wrong` holds, otherwise it is in `rest`
abbrev pub IfWrong : {F : Type 0} → Type 0 → F → (F → Type 0) → F → Type 0
IfWrong wrong name rest fault = (wrong × (fault ≡ name)) ⊎ ((wrong → ⊥) × rest fault)

abbrev pub NoFault : {F : Type 0} → F → Type 0
NoFault fault = ⊥

-- ---- the things that may be wrong
-- a legal card is not answered: it has no branch and, in version 2, no branch of a higher card excuses it
abbrev pub LacksBranch : Version → Node → List PatCard → Branches → Type 0
LacksBranch version node cards branches =
    (card : PatCard) × MayComeNext node cards card
    × (IsAnswered version node.pattern (player_after node cards) branches card → ⊥)

-- a branch has a card that is not legal
abbrev pub HasWrongBranch : Node → List PatCard → Branches → Type 0
HasWrongBranch node cards branches = (card : PatCard) × HasBranchOf branches card × (MayComeNext node cards card → ⊥)

-- in the node that is named another seat leads
abbrev pub HasWrongLead : GraphShape → Child → Type 0
HasWrongLead graph child =
    (next : Node) × (slice_get graph.nodes child.number ≡ Some next) × (next.lead ≢ child.winner)

-- the node that is named needs fewer tricks than are still needed
abbrev pub NeedsTooLittle : GraphShape → Node → Child → Type 0
NeedsTooLittle graph node child =
    (next : Node) × (slice_get graph.nodes child.number ≡ Some next)
    × (next.need < need_after graph.side node.need child.winner)

-- the pattern of the node that is named doesn't cover the rest
abbrev pub FailsToCover : GraphShape → Node → List PatCard → Child → Type 0
FailsToCover graph node cards child =
    (next : Node) × (slice_get graph.nodes child.number ≡ Some next)
    × (CoversRest graph.version next.pattern node cards → ⊥)

-- ---- the first fault of a place itself
abbrev pub IsOwnFault : Side → Node → List PatCard → PatCard → StepFault → Type 0
IsOwnFault side node cards card =
    IfWrong (IsOwnTurn side node cards → ⊥) TreeShape
    (IfWrong (MayComeNext node cards card → ⊥) CardNotLegal NoFault)

abbrev pub IsReplyFault : Version → Side → Node → List PatCard → Branches → StepFault → Type 0
IsReplyFault version side node cards branches =
    IfWrong (IsOpponentsTurn side node cards → ⊥) TreeShape
    (IfWrong (LacksBranch version node cards branches) BranchMissing
    (IfWrong (HasWrongBranch node cards branches) BranchExtra NoFault))

-- the fault of the first child that has one
abbrev pub IsChildrenFault : GraphShape → Node → List PatCard → List Child → StepFault → Type 0
IsChildrenFault graph node cards [] = NoFault
IsChildrenFault graph node cards (child ∷ rest) =
    IfWrong (HasWrongLead graph child) ChildLead
    (IfWrong (NeedsTooLittle graph node child) ChildNeed
    (IfWrong (FailsToCover graph node cards child) ChildPattern
    (IsChildrenFault graph node cards rest)))

abbrev pub IsLeafFault : GraphShape → Node → List PatCard → List Child → StepFault → Type 0
IsLeafFault graph node cards children =
    IfWrong (length cards ≢ 4) TreeShape
    (IfWrong (ListsWinners graph node cards children → ⊥) LeafWinners
    (IsChildrenFault graph node cards children))

-- ---- the first fault of a tree
-- all is right from this place on, to which these cards led
abbrev pub HoldsFrom : GraphShape → Node → List PatCard → TrickTree → Type 0
HoldsFrom graph node cards tree =
    (more : List PatCard) (place : TrickTree) → LeadsTo tree more place → IsRightAfter graph node (cards ++ more) place

-- all is right below these branches
abbrev pub HoldAmong : GraphShape → Node → List PatCard → Branches → Type 0
HoldAmong graph node cards branches =
    (card : PatCard) (below : TrickTree) → HasBranch branches card below
    → HoldsFrom graph node (cards ++ card ∷ []) below

-- A place's own fault comes before the faults below it, and the faults of a branch before those of the next.
abbrev mutual
  pub IsFirstFault : GraphShape → Node → List PatCard → TrickTree → StepFault → Type 0
  IsFirstFault graph node cards (Own card tree) fault =
      IsOwnFault graph.side node cards card fault
      ⊎ (IsRightAfter graph node cards (Own card tree) × IsFirstFault graph node (cards ++ card ∷ []) tree fault)
  IsFirstFault graph node cards (Reply branches) fault =
      IsReplyFault graph.version graph.side node cards branches fault
      ⊎ (IsRightAfter graph node cards (Reply branches) × IsFirstFaultAmong graph node cards branches fault)
  IsFirstFault graph node cards (Leaf children) fault = IsLeafFault graph node cards children fault

  pub IsFirstFaultAmong : GraphShape → Node → List PatCard → Branches → StepFault → Type 0
  IsFirstFaultAmong graph node cards NoBranch fault = ⊥
  IsFirstFaultAmong graph node cards (Branch card tree rest) fault =
      IsFirstFault graph node (cards ++ card ∷ []) tree fault
      ⊎ (HoldsFrom graph node (cards ++ card ∷ []) tree × IsFirstFaultAmong graph node cards rest fault)

-- ---- the first fault of a graph
-- the fault is the fault of the least node that has one
pub record IsGraphFault (graph : GraphShape) (fault : NodeFault) : Type 0 where
  pub node : Node
  pub there : slice_get graph.nodes fault.number ≡ Some node
  pub first : IsFirstFault graph node [] node.tree fault.fault
  pub before :
      (number : ℕ) (earlier : Node) → number < fault.number → slice_get graph.nodes number ≡ Some earlier
      → HoldsFrom graph earlier [] earlier.tree

-- the answer for the node with a number: no fault if its step holds, otherwise the first fault of its tree
abbrev pub NodeTells : GraphShape → ℕ → Option NodeFault → Type 0
NodeTells graph number told = MatchOption told
    ((node : Node) → slice_get graph.nodes number ≡ Some node → HoldsFrom graph node [] node.tree)
    (λ fault. (fault.number ≡ number)
    × ((node : Node) → slice_get graph.nodes number ≡ Some node → IsFirstFault graph node [] node.tree fault.fault))
