-- That all is right from a place on, told by the place itself and by what stands below it.
use Rattle.std.proofs.Common.{◌≡◌, List, [], ◌∷◌, ◌++◌, inl, inr, refl, sym, subst, append_assoc}
use Rattle.std.proofs.lemmas.List.{append-nil}
use Rattle.pattern_step.specs.declared.pat_cards.PatCard.{PatCard}
use Rattle.certificate_graph.specs.declared.children.Child.{Child}
use Rattle.certificate_graph.specs.declared.nodes.Node.{Node}
use Rattle.certificate_graph.specs.Trees.{TrickTree, Own, Reply, Leaf, Branches, NoBranch, Branch}
use Rattle.certificate_graph.specs.Graphs.{GraphShape}
use Rattle.checker.specs.Steps.{IsRightAfter, IsRightLeaf}
use Rattle.checker.specs.Faults.{HoldsFrom, HoldAmong}

-- the place itself is right
pub right_here : (graph : GraphShape) (node : Node) (cards : List PatCard) (tree : TrickTree) → HoldsFrom graph node cards tree → IsRightAfter graph node cards tree
right_here graph node cards tree holds = subst (λ (played : List PatCard). IsRightAfter graph node played tree) (append-nil cards) (holds [] tree refl)

-- a place that is right, reached by no more cards
here : (graph : GraphShape) (node : Node) (cards : List PatCard) (tree place : TrickTree) → IsRightAfter graph node cards tree → tree ≡ place → IsRightAfter graph node (cards ++ []) place
here graph node cards tree place right is =
    subst (λ (played : List PatCard). IsRightAfter graph node played place) (sym (append-nil cards))
    (subst (λ (other : TrickTree). IsRightAfter graph node cards other) is right)

-- a place reached by one card and more
below : (graph : GraphShape) (node : Node) (cards : List PatCard) (card : PatCard) (more : List PatCard) (place : TrickTree) →
    IsRightAfter graph node ((cards ++ card ∷ []) ++ more) place → IsRightAfter graph node (cards ++ card ∷ more) place
below graph node cards card more place right = subst (λ (played : List PatCard). IsRightAfter graph node played place) (append_assoc cards (card ∷ []) more) right

pub own_holds : (graph : GraphShape) (node : Node) (cards : List PatCard) (card : PatCard) (tree : TrickTree) →
    IsRightAfter graph node cards (Own card tree) → HoldsFrom graph node (cards ++ card ∷ []) tree → HoldsFrom graph node cards (Own card tree)
own_holds graph node cards card tree right holds [] place is = here graph node cards (Own card tree) place right is
own_holds graph node cards card tree right holds (first ∷ more) place (is, leads) =
    subst (λ (one : PatCard). IsRightAfter graph node (cards ++ one ∷ more) place) is
    (below graph node cards card more place (holds more place leads))

pub reply_holds : (graph : GraphShape) (node : Node) (cards : List PatCard) (branches : Branches) →
    IsRightAfter graph node cards (Reply branches) → HoldAmong graph node cards branches → HoldsFrom graph node cards (Reply branches)
reply_holds graph node cards branches right hold [] place is = here graph node cards (Reply branches) place right is
reply_holds graph node cards branches right hold (first ∷ more) place (tree, has, leads) =
    below graph node cards first more place (hold first tree has more place leads)

pub leaf_holds : (graph : GraphShape) (node : Node) (cards : List PatCard) (children : List Child) →
    IsRightLeaf graph node cards children → HoldsFrom graph node cards (Leaf children)
leaf_holds graph node cards children right [] place is = here graph node cards (Leaf children) place right is
leaf_holds graph node cards children right (first ∷ more) place leads = absurd leads

-- branches, the first and then the others
pub none_hold : (graph : GraphShape) (node : Node) (cards : List PatCard) → HoldAmong graph node cards NoBranch
none_hold graph node cards card tree has = absurd has

pub more_hold : (graph : GraphShape) (node : Node) (cards : List PatCard) (card : PatCard) (tree : TrickTree) (rest : Branches) →
    HoldsFrom graph node (cards ++ card ∷ []) tree → HoldAmong graph node cards rest → HoldAmong graph node cards (Branch card tree rest)
more_hold graph node cards card tree rest first others other below has =
    elim has [
      | inl here ↦ subst (λ (one : PatCard). HoldsFrom graph node (cards ++ one ∷ []) below) here.0
          (subst (λ (one : TrickTree). HoldsFrom graph node (cards ++ card ∷ []) one) here.1 first)
      | inr later ↦ others other below later
    ]

-- and the other way
pub own_below : (graph : GraphShape) (node : Node) (cards : List PatCard) (card : PatCard) (tree : TrickTree) → HoldsFrom graph node cards (Own card tree) → HoldsFrom graph node (cards ++ card ∷ []) tree
own_below graph node cards card tree holds more place leads =
    subst (λ (played : List PatCard). IsRightAfter graph node played place) (sym (append_assoc cards (card ∷ []) more))
    (holds (card ∷ more) place (refl, leads))

pub reply_below : (graph : GraphShape) (node : Node) (cards : List PatCard) (branches : Branches) → HoldsFrom graph node cards (Reply branches) → HoldAmong graph node cards branches
reply_below graph node cards branches holds card tree has more place leads =
    subst (λ (played : List PatCard). IsRightAfter graph node played place) (sym (append_assoc cards (card ∷ []) more))
    (holds (card ∷ more) place (tree, has, leads))
