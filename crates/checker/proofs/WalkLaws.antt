-- What the walk tells of a place, from what it tells of the places below.
use Rattle.std.proofs.Common.{◌≡◌, List, [], ◌∷◌, ◌++◌, length, All, Result, Ok, Err, inr, subst}
use Rattle.std.specs.Prelude.{MatchResult}
use Rattle.cards.specs.declared.seats.Side.{Side}
use Rattle.pattern_step.specs.declared.pat_cards.PatCard.{PatCard}
use Rattle.certificate_graph.specs.declared.children.Child.{Child}
use Rattle.certificate_graph.specs.declared.nodes.Node.{Node}
use Rattle.certificate_graph.specs.declared.versions.Version.{Version}
use Rattle.certificate_graph.specs.Trees.{TrickTree, Own, Reply, Leaf, Branches}
use Rattle.certificate_graph.specs.Graphs.{GraphShape}
use Rattle.checker.specs.declared.faults.StepFault.{StepFault}
use Rattle.checker.specs.Steps.{IsOwnTurn, IsOpponentsTurn, MayComeNext, AreAnswers, ListsWinners, IsRightChild, IsRightLeaf, IsRightAfter}
use Rattle.checker.specs.Faults.{HoldsFrom, HoldAmong, IsFirstFault, IsFirstFaultAmong, IsChildrenFault, IsLeafFault}
use Rattle.checker.proofs.HoldLaws.{own_holds, reply_holds, leaf_holds}

-- an answer, where what it tells tells something else
pub told_on : {A : Type 0} (answer : Result A StepFault) (P Q : Type 0) (F G : StepFault → Type 0) → (P → Q) → ((fault : StepFault) → F fault → G fault) → MatchResult answer (λ _. P) F → MatchResult answer (λ _. Q) G
told_on (Ok done) P Q F G holds fails told = holds told
told_on (Err fault) P Q F G holds fails told = fails fault told

-- what is told of a place, and of branches
abbrev pub IsTold : {A : Type 0} → GraphShape → Node → List PatCard → TrickTree → Result A StepFault → Type 0
IsTold graph node cards tree answer = MatchResult answer (λ _. HoldsFrom graph node cards tree) (IsFirstFault graph node cards tree)

abbrev pub AreTold : {A : Type 0} → GraphShape → Node → List PatCard → Branches → Result A StepFault → Type 0
AreTold graph node cards branches answer = MatchResult answer (λ _. HoldAmong graph node cards branches) (IsFirstFaultAmong graph node cards branches)

pub own_told : {A : Type 0} (graph : GraphShape) (node : Node) (cards next : List PatCard) (card : PatCard) (tree place : TrickTree) (side : Side) (answer : Result A StepFault) →
    Own card tree ≡ place → side ≡ graph.side → next ≡ cards ++ card ∷ [] → IsOwnTurn side node cards × MayComeNext node cards card →
    IsTold graph node next tree answer → IsTold graph node cards place answer
own_told graph node cards next card tree place side answer here of_side played right told =
    let right' : IsRightAfter graph node cards (Own card tree) = (rw of_side at right) in
    subst (λ (p : TrickTree). IsTold graph node cards p answer) here
    (told_on answer (HoldsFrom graph node (cards ++ card ∷ []) tree) (HoldsFrom graph node cards (Own card tree)) (IsFirstFault graph node (cards ++ card ∷ []) tree) (IsFirstFault graph node cards (Own card tree))
    (own_holds graph node cards card tree right') (λ fault first. inr (right', first))
    (subst (λ (l : List PatCard). IsTold graph node l tree answer) played told))

pub reply_told : {A : Type 0} (graph : GraphShape) (node : Node) (cards : List PatCard) (branches : Branches) (place : TrickTree) (version : Version) (side : Side) (answer : Result A StepFault) →
    Reply branches ≡ place → version ≡ graph.version → side ≡ graph.side → IsOpponentsTurn side node cards × AreAnswers version node cards branches →
    AreTold graph node cards branches answer → IsTold graph node cards place answer
reply_told graph node cards branches place version side answer here of_version of_side right told =
    let right' : IsRightAfter graph node cards (Reply branches) = (rw (of_version, of_side) at right) in
    subst (λ (p : TrickTree). IsTold graph node cards p answer) here
    (told_on answer (HoldAmong graph node cards branches) (HoldsFrom graph node cards (Reply branches)) (IsFirstFaultAmong graph node cards branches) (IsFirstFault graph node cards (Reply branches))
    (reply_holds graph node cards branches right') (λ fault first. inr (right', first)) told)

pub leaf_told : {A : Type 0} (graph : GraphShape) (node : Node) (cards : List PatCard) (children : List Child) (place : TrickTree) (answer : Result A StepFault) →
    Leaf children ≡ place → MatchResult answer (λ _. IsRightLeaf graph node cards children) (IsLeafFault graph node cards children) → IsTold graph node cards place answer
leaf_told graph node cards children place answer here told =
    subst (λ (p : TrickTree). IsTold graph node cards p answer) here
    (told_on answer (IsRightLeaf graph node cards children) (HoldsFrom graph node cards (Leaf children)) (IsLeafFault graph node cards children) (IsFirstFault graph node cards (Leaf children))
    (leaf_holds graph node cards children) (λ fault first. first) told)

-- a leaf, where the seats that it lists are the right ones
pub children_told : {A : Type 0} (graph : GraphShape) (node : Node) (cards trick : List PatCard) (children : List Child) (answer : Result A StepFault) →
    trick ≡ cards → length cards ≡ 4 → ListsWinners graph node trick children → MatchResult answer (λ _. All (IsRightChild graph node trick) children) (IsChildrenFault graph node trick children) →
    MatchResult answer (λ _. IsRightLeaf graph node cards children) (IsLeafFault graph node cards children)
children_told graph node cards trick children answer same four lists told =
    let lists' : ListsWinners graph node cards children = subst (λ (l : List PatCard). ListsWinners graph node l children) same lists in
    told_on answer (All (IsRightChild graph node cards) children) (IsRightLeaf graph node cards children) (IsChildrenFault graph node cards children) (IsLeafFault graph node cards children)
    (λ each. record { whole = four; winners = lists'; each = each })
    (λ fault first. inr (λ wrong. wrong four, inr (λ wrong. wrong lists', first)))
    (subst (λ (l : List PatCard). MatchResult answer (λ _. All (IsRightChild graph node l) children) (IsChildrenFault graph node l children)) same told)
