-- A place has no first fault where all is right from it on, and else one.
use Rattle.std.proofs.Common.{◌≡◌, ◌≢◌, ℕ, List, [], ◌∷◌, ◌++◌, length, All, inl, inr, refl, sym, ◌∙◌, ap, subst, arith}
use Rattle.std.proofs.lemmas.Bool.{cases_lt}
use Rattle.std.proofs.lemmas.List.Elements.{All-head, All-tail}
use Rattle.cards.specs.declared.seats.Side.{Side}
use Rattle.pattern_step.specs.declared.pat_cards.PatCard.{PatCard}
use Rattle.certificate_graph.specs.declared.children.Child.{Child}
use Rattle.certificate_graph.specs.declared.nodes.Node.{Node}
use Rattle.certificate_graph.specs.declared.versions.Version.{Version}
use Rattle.certificate_graph.specs.Trees.{TrickTree, Own, Reply, Leaf, Branches, NoBranch, Branch}
use Rattle.certificate_graph.specs.Graphs.{GraphShape}
use Rattle.checker.specs.declared.faults.StepFault.{StepFault}
use Rattle.checker.specs.declared.faults.StepFault.TheVariants.{CardNotLegal, BranchMissing, BranchExtra, LeafWinners, ChildLead, ChildNeed, ChildPattern, TreeShape}
use Rattle.checker.specs.declared.faults.NodeFault.{NodeFault}
use Rattle.checker.specs.Steps.{IsOwnTurn, IsOpponentsTurn, MayComeNext, AreAnswers, ListsWinners, IsRightChild, IsRightLeaf, StepsHold}
use Rattle.checker.specs.Faults.{IfWrong, NoFault, LacksBranch, HasWrongBranch, HasWrongLead, NeedsTooLittle, FailsToCover, IsOwnFault, IsReplyFault, IsChildrenFault, IsLeafFault, HoldsFrom, HoldAmong, IsFirstFault, IsFirstFaultAmong, IsGraphFault}
use Rattle.checker.proofs.ChildLaws.{right_lead, right_need, right_pattern, same_node}
use Rattle.checker.proofs.HoldLaws.{right_here, own_below, reply_below}

-- ---- chains
-- a chain tells one fault, where what follows does
pub one_of : {F : Type 0} (wrong : Type 0) (name : F) (rest : F → Type 0) (one other : F) → (rest one → rest other → one ≡ other) → IfWrong wrong name rest one → IfWrong wrong name rest other → one ≡ other
one_of wrong name rest one other more (inl a) (inl b) = a.1 ∙ sym b.1
one_of wrong name rest one other more (inl a) (inr b) = absurd (b.0 a.0)
one_of wrong name rest one other more (inr a) (inl b) = absurd (a.0 b.0)
one_of wrong name rest one other more (inr a) (inr b) = more a.1 b.1

-- a chain tells none, where nothing is wrong
pub none_of : {F : Type 0} (wrong : Type 0) (name : F) (rest : F → Type 0) (fault : F) → (wrong → ⊥) → (rest fault → ⊥) → IfWrong wrong name rest fault → ⊥
none_of wrong name rest fault right none (inl a) = right a.0
none_of wrong name rest fault right none (inr b) = none b.1

-- what follows in the chains of a place, one fault after another
abbrev AfterTurn : Node → List PatCard → PatCard → StepFault → Type 0
AfterTurn node cards card = IfWrong (MayComeNext node cards card → ⊥) CardNotLegal NoFault

abbrev AfterLacking : Node → List PatCard → Branches → StepFault → Type 0
AfterLacking node cards branches = IfWrong (HasWrongBranch node cards branches) BranchExtra NoFault

abbrev AfterOpponents : Version → Node → List PatCard → Branches → StepFault → Type 0
AfterOpponents version node cards branches = IfWrong (LacksBranch version node cards branches) BranchMissing (AfterLacking node cards branches)

abbrev AfterNeed : GraphShape → Node → List PatCard → Child → List Child → StepFault → Type 0
AfterNeed graph node cards child rest = IfWrong (FailsToCover graph node cards child) ChildPattern (IsChildrenFault graph node cards rest)

abbrev AfterLead : GraphShape → Node → List PatCard → Child → List Child → StepFault → Type 0
AfterLead graph node cards child rest = IfWrong (NeedsTooLittle graph node child) ChildNeed (AfterNeed graph node cards child rest)

abbrev AfterEnd : GraphShape → Node → List PatCard → List Child → StepFault → Type 0
AfterEnd graph node cards children = IfWrong (ListsWinners graph node cards children → ⊥) LeafWinners (IsChildrenFault graph node cards children)

-- ---- no fault of a place that is right
own_none : (side : Side) (node : Node) (cards : List PatCard) (card : PatCard) (fault : StepFault) → IsOwnTurn side node cards × MayComeNext node cards card → IsOwnFault side node cards card fault → ⊥
own_none side node cards card fault right =
    none_of (IsOwnTurn side node cards → ⊥) TreeShape (AfterTurn node cards card) fault (λ wrong. wrong right.0)
    (none_of (MayComeNext node cards card → ⊥) CardNotLegal NoFault fault (λ wrong. wrong right.1) (λ none. none))

reply_none : (version : Version) (side : Side) (node : Node) (cards : List PatCard) (branches : Branches) (fault : StepFault) → IsOpponentsTurn side node cards × AreAnswers version node cards branches → IsReplyFault version side node cards branches fault → ⊥
reply_none version side node cards branches fault right =
    none_of (IsOpponentsTurn side node cards → ⊥) TreeShape (AfterOpponents version node cards branches) fault (λ wrong. wrong right.0)
    (none_of (LacksBranch version node cards branches) BranchMissing (AfterLacking node cards branches) fault (λ (card, may, lacks). lacks (right.1.each card may))
    (none_of (HasWrongBranch node cards branches) BranchExtra NoFault fault (λ (card, has, fails). fails (right.1.legal card has)) (λ none. none)))

child_none : (graph : GraphShape) (node : Node) (cards : List PatCard) (child : Child) (rest : List Child) (fault : StepFault) → IsRightChild graph node cards child → (IsChildrenFault graph node cards rest fault → ⊥) →
    IsChildrenFault graph node cards (child ∷ rest) fault → ⊥
child_none graph node cards child rest fault (next, there, goes_on) none =
    none_of (HasWrongLead graph child) ChildLead (AfterLead graph node cards child rest) fault (right_lead graph child next there goes_on.lead)
    (none_of (NeedsTooLittle graph node child) ChildNeed (AfterNeed graph node cards child rest) fault (right_need graph node child next there goes_on.need)
    (none_of (FailsToCover graph node cards child) ChildPattern (IsChildrenFault graph node cards rest) fault
    (right_pattern graph node cards child next goes_on.pattern.0 there goes_on.pattern.1 goes_on.pattern.2) none))

children_none : (graph : GraphShape) (node : Node) (cards : List PatCard) (children : List Child) (fault : StepFault) → All (IsRightChild graph node cards) children → IsChildrenFault graph node cards children fault → ⊥
children_none graph node cards [] fault each told = told
children_none graph node cards (child ∷ rest) fault each told =
    child_none graph node cards child rest fault (All-head (IsRightChild graph node cards) child rest each)
    (children_none graph node cards rest fault (All-tail (IsRightChild graph node cards) child rest each)) told

leaf_none : (graph : GraphShape) (node : Node) (cards : List PatCard) (children : List Child) (fault : StepFault) → IsRightLeaf graph node cards children → IsLeafFault graph node cards children fault → ⊥
leaf_none graph node cards children fault right =
    none_of (length cards ≢ 4) TreeShape (AfterEnd graph node cards children) fault (λ wrong. wrong right.whole)
    (none_of (ListsWinners graph node cards children → ⊥) LeafWinners (IsChildrenFault graph node cards children) fault (λ wrong. wrong right.winners) (children_none graph node cards children fault right.each))

-- ---- no first fault where all is right
mutual
  pub none_first : (graph : GraphShape) (node : Node) (cards : List PatCard) (tree : TrickTree) (fault : StepFault) → HoldsFrom graph node cards tree → IsFirstFault graph node cards tree fault → ⊥
  none_first graph node cards (Own card tree) fault holds (inl own) = own_none graph.side node cards card fault (right_here graph node cards (Own card tree) holds) own
  none_first graph node cards (Own card tree) fault holds (inr below) = none_first graph node (cards ++ card ∷ []) tree fault (own_below graph node cards card tree holds) below.1
  none_first graph node cards (Reply branches) fault holds (inl reply) = reply_none graph.version graph.side node cards branches fault (right_here graph node cards (Reply branches) holds) reply
  none_first graph node cards (Reply branches) fault holds (inr below) = none_among graph node cards branches fault (reply_below graph node cards branches holds) below.1
  none_first graph node cards (Leaf children) fault holds told = leaf_none graph node cards children fault (right_here graph node cards (Leaf children) holds) told

  pub none_among : (graph : GraphShape) (node : Node) (cards : List PatCard) (branches : Branches) (fault : StepFault) → HoldAmong graph node cards branches → IsFirstFaultAmong graph node cards branches fault → ⊥
  none_among graph node cards NoBranch fault hold told = told
  none_among graph node cards (Branch card tree rest) fault hold (inl first) = none_first graph node (cards ++ card ∷ []) tree fault (hold card tree (inl (refl, refl))) first
  none_among graph node cards (Branch card tree rest) fault hold (inr later) = none_among graph node cards rest fault (λ other below has. hold other below (inr has)) later.1

-- ---- one first fault
one_own : (side : Side) (node : Node) (cards : List PatCard) (card : PatCard) (one other : StepFault) → IsOwnFault side node cards card one → IsOwnFault side node cards card other → one ≡ other
one_own side node cards card one other =
    one_of (IsOwnTurn side node cards → ⊥) TreeShape (AfterTurn node cards card) one other
    (one_of (MayComeNext node cards card → ⊥) CardNotLegal NoFault one other (λ none. absurd none))

one_reply : (version : Version) (side : Side) (node : Node) (cards : List PatCard) (branches : Branches) (one other : StepFault) → IsReplyFault version side node cards branches one → IsReplyFault version side node cards branches other → one ≡ other
one_reply version side node cards branches one other =
    one_of (IsOpponentsTurn side node cards → ⊥) TreeShape (AfterOpponents version node cards branches) one other
    (one_of (LacksBranch version node cards branches) BranchMissing (AfterLacking node cards branches) one other
    (one_of (HasWrongBranch node cards branches) BranchExtra NoFault one other (λ none. absurd none)))

one_child : (graph : GraphShape) (node : Node) (cards : List PatCard) (children : List Child) (one other : StepFault) → IsChildrenFault graph node cards children one → IsChildrenFault graph node cards children other → one ≡ other
one_child graph node cards [] one other told told' = absurd told
one_child graph node cards (child ∷ rest) one other told told' =
    one_of (HasWrongLead graph child) ChildLead (AfterLead graph node cards child rest) one other
    (one_of (NeedsTooLittle graph node child) ChildNeed (AfterNeed graph node cards child rest) one other
    (one_of (FailsToCover graph node cards child) ChildPattern (IsChildrenFault graph node cards rest) one other
    (one_child graph node cards rest one other))) told told'

one_leaf : (graph : GraphShape) (node : Node) (cards : List PatCard) (children : List Child) (one other : StepFault) → IsLeafFault graph node cards children one → IsLeafFault graph node cards children other → one ≡ other
one_leaf graph node cards children one other =
    one_of (length cards ≢ 4) TreeShape (AfterEnd graph node cards children) one other
    (one_of (ListsWinners graph node cards children → ⊥) LeafWinners (IsChildrenFault graph node cards children) one other (one_child graph node cards children one other))

mutual
  pub one_first : (graph : GraphShape) (node : Node) (cards : List PatCard) (tree : TrickTree) (one other : StepFault) → IsFirstFault graph node cards tree one → IsFirstFault graph node cards tree other → one ≡ other
  one_first graph node cards (Own card tree) one other (inl a) (inl b) = one_own graph.side node cards card one other a b
  one_first graph node cards (Own card tree) one other (inl a) (inr b) = absurd (own_none graph.side node cards card one b.0 a)
  one_first graph node cards (Own card tree) one other (inr a) (inl b) = absurd (own_none graph.side node cards card other a.0 b)
  one_first graph node cards (Own card tree) one other (inr a) (inr b) = one_first graph node (cards ++ card ∷ []) tree one other a.1 b.1
  one_first graph node cards (Reply branches) one other (inl a) (inl b) = one_reply graph.version graph.side node cards branches one other a b
  one_first graph node cards (Reply branches) one other (inl a) (inr b) = absurd (reply_none graph.version graph.side node cards branches one b.0 a)
  one_first graph node cards (Reply branches) one other (inr a) (inl b) = absurd (reply_none graph.version graph.side node cards branches other a.0 b)
  one_first graph node cards (Reply branches) one other (inr a) (inr b) = one_among graph node cards branches one other a.1 b.1
  one_first graph node cards (Leaf children) one other a b = one_leaf graph node cards children one other a b

  pub one_among : (graph : GraphShape) (node : Node) (cards : List PatCard) (branches : Branches) (one other : StepFault) → IsFirstFaultAmong graph node cards branches one → IsFirstFaultAmong graph node cards branches other → one ≡ other
  one_among graph node cards NoBranch one other a b = absurd a
  one_among graph node cards (Branch card tree rest) one other (inl a) (inl b) = one_first graph node (cards ++ card ∷ []) tree one other a b
  one_among graph node cards (Branch card tree rest) one other (inl a) (inr b) = absurd (none_first graph node (cards ++ card ∷ []) tree one b.0 a)
  one_among graph node cards (Branch card tree rest) one other (inr a) (inl b) = absurd (none_first graph node (cards ++ card ∷ []) tree other a.0 b)
  one_among graph node cards (Branch card tree rest) one other (inr a) (inr b) = one_among graph node cards rest one other a.1 b.1

-- ---- graphs
pub none_of_graph : (graph : GraphShape) → StepsHold graph → (fault : NodeFault) → IsGraphFault graph fault → ⊥
none_of_graph graph hold fault told = none_first graph told.node [] told.node.tree fault.fault (hold fault.number told.node told.there) told.first

pub one_of_graph : (graph : GraphShape) (one other : NodeFault) → IsGraphFault graph one → IsGraphFault graph other → one ≡ other
one_of_graph graph one other told told' =
    elim (cases_lt one.number other.number) [
      | inl less ↦ absurd (none_first graph told.node [] told.node.tree one.fault (told'.before one.number told.node less told.there) told.first)
      | inr more ↦ elim (cases_lt other.number one.number) [
        | inl less ↦ absurd (none_first graph told'.node [] told'.node.tree other.fault (told.before other.number told'.node less told'.there) told'.first)
        | inr more' ↦ (let number : one.number ≡ other.number = omega arith in
            let node : told.node ≡ told'.node = same_node graph.nodes one.number told.node told'.node told.there (rw number told'.there) in
            let fault : one.fault ≡ other.fault = one_first graph told'.node [] told'.node.tree one.fault other.fault (subst (λ (n : Node). IsFirstFault graph n [] n.tree one.fault) node told.first) told'.first in
            ap (λ (n : ℕ). record { number = n; fault = one.fault }) number ∙ ap (λ (f : StepFault). record { number = other.number; fault = f }) fault)
      ]
    ]
