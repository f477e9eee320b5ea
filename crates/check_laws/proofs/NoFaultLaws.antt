-- All is right where there is no first fault.
use Rattle.std.proofs.Common.{◌≡◌, ◌≢◌, ℕ, zero, suc, ◌<◌, ◌≤◌, List, [], ◌∷◌, ◌++◌, length, get_or, All, Some, inl, inr, refl, sym, ◌∙◌, subst, arith}
use Rattle.std.specs.Prelude.{slice_get}
use Rattle.std.proofs.lemmas.Bool.{cases_lt, cases_eq}
use Rattle.std.proofs.lemmas.List.Elements.{All-head, All-tail, All-cons, All-nil, All-from_recursion}
use Rattle.cards.specs.declared.seats.Side.{Side}
use Rattle.cards.specs.Seats.{side_of}
use Rattle.pattern_step.specs.declared.pat_cards.PatCard.{PatCard}
use Rattle.pattern_step.specs.Tricks.{suit_led_by}
use Rattle.pattern_step.proofs.PatCardLaws.{slice_get-at, slice_get-within}
use Rattle.certificate_graph.specs.declared.children.Child.{Child}
use Rattle.certificate_graph.specs.declared.nodes.Node.{Node}
use Rattle.certificate_graph.specs.declared.versions.Version.{Version}
use Rattle.certificate_graph.specs.Trees.{TrickTree, Own, Reply, Leaf, Branches, NoBranch, Branch}
use Rattle.certificate_graph.specs.Graphs.{GraphShape, IsGraph, NamesBelow, NameBelow}
use Rattle.checker.specs.declared.faults.StepFault.{StepFault}
use Rattle.checker.specs.declared.faults.StepFault.TheVariants.{CardNotLegal, BranchMissing, BranchExtra, LeafWinners, ChildLead, ChildNeed, ChildPattern, TreeShape}
use Rattle.checker.specs.declared.faults.NodeFault.{NodeFault}
use Rattle.checker.specs.Steps.{player_after, need_after, IsOwnTurn, IsOpponentsTurn, MayComeNext, IsAnswered, AreAnswers, IsListed, HasToGoOn, ListsWinners, CoversRest, IsRightChild, IsRightLeaf, StepsHold}
use Rattle.checker.specs.Faults.{IfWrong, NoFault, LacksBranch, HasWrongBranch, HasWrongLead, NeedsTooLittle, FailsToCover, IsOwnFault, IsReplyFault, IsChildrenFault, IsLeafFault, HoldsFrom, HoldAmong, IsFirstFault, IsFirstFaultAmong, IsGraphFault}
use Rattle.check_laws.proofs.Decisions.{Decided, not_not, alike, both, is_less, same_seat, same_side, is_legal}
use Rattle.check_laws.proofs.StepDecisions.{is_answered, is_listed, has_to_go_on, covers_rest}
use Rattle.checker.proofs.HoldLaws.{own_holds, reply_holds, leaf_holds, none_hold, more_hold}

-- a chain of which nothing is told: the first is not wrong, and nothing is told of what follows
pub not_wrong : {F : Type 0} (wrong : Type 0) (name : F) (rest : F → Type 0) → ((fault : F) → IfWrong wrong name rest fault → ⊥) → wrong → ⊥
not_wrong wrong name rest none is = none name (inl (is, refl))

pub none_later : {F : Type 0} (wrong : Type 0) (name : F) (rest : F → Type 0) → ((fault : F) → IfWrong wrong name rest fault → ⊥) → (fault : F) → rest fault → ⊥
none_later wrong name rest none fault told = none fault (inr (not_wrong wrong name rest none, told))

-- ---- turns
own_turn : (side : Side) (node : Node) (cards : List PatCard) → Decided (IsOwnTurn side node cards)
own_turn side node cards =
    alike ((length cards < 4) × (side_of (player_after node cards) ≡ side)) (IsOwnTurn side node cards)
    ((λ h. record { goes_on = h.0; own = h.1 }), λ turn. (turn.goes_on, turn.own))
    (both (length cards < 4) (side_of (player_after node cards) ≡ side) (is_less (length cards) 4) (same_side (side_of (player_after node cards)) side))

-- the seat to play is not of the side
others_play : (side : Side) (node : Node) (cards : List PatCard) → Decided (side_of (player_after node cards) ≢ side)
others_play side node cards = elim (same_side (side_of (player_after node cards)) side) [ inl same ↦ inr (λ others. others same) | inr fails ↦ inl fails ]

opponents_turn : (side : Side) (node : Node) (cards : List PatCard) → Decided (IsOpponentsTurn side node cards)
opponents_turn side node cards =
    alike ((length cards < 4) × (side_of (player_after node cards) ≢ side)) (IsOpponentsTurn side node cards)
    ((λ h. record { goes_on = h.0; others = h.1 }), λ turn. (turn.goes_on, turn.others))
    (both (length cards < 4) (side_of (player_after node cards) ≢ side) (is_less (length cards) 4) (others_play side node cards))

may_come : (node : Node) (cards : List PatCard) (card : PatCard) → Decided (MayComeNext node cards card)
may_come node cards card = is_legal node.pattern (player_after node cards) (suit_led_by cards) card

own_right : (side : Side) (node : Node) (cards : List PatCard) (card : PatCard) → ((fault : StepFault) → IsOwnFault side node cards card fault → ⊥) → IsOwnTurn side node cards × MayComeNext node cards card
own_right side node cards card none =
    let rest : StepFault → Type 0 = IfWrong (MayComeNext node cards card → ⊥) CardNotLegal NoFault in
    let turn : Type 0 = IsOwnTurn side node cards in (
      not_not turn (own_turn side node cards) (not_wrong (turn → ⊥) TreeShape rest none),
      not_not (MayComeNext node cards card) (may_come node cards card)
          (not_wrong (MayComeNext node cards card → ⊥) CardNotLegal NoFault (none_later (turn → ⊥) TreeShape rest none)),
    )

reply_right : (version : Version) (side : Side) (node : Node) (cards : List PatCard) (branches : Branches) → ((fault : StepFault) → IsReplyFault version side node cards branches fault → ⊥) → IsOpponentsTurn side node cards × AreAnswers version node cards branches
reply_right version side node cards branches none = (
  not_not turn (opponents_turn side node cards) (not_wrong (turn → ⊥) TreeShape after_turn none),
  record {
    each = λ card may. not_not (IsAnswered version node.pattern (player_after node cards) branches card) (is_answered version node.pattern (player_after node cards) branches card) (λ lacks. no_lack (card, may, lacks));
    legal = λ card has. not_not (MayComeNext node cards card) (may_come node cards card) (λ fails. no_wrong (card, has, fails));
  },
)
  where
    turn : Type 0
    turn = IsOpponentsTurn side node cards

    after_lack : StepFault → Type 0
    after_lack = IfWrong (HasWrongBranch node cards branches) BranchExtra NoFault

    after_turn : StepFault → Type 0
    after_turn = IfWrong (LacksBranch version node cards branches) BranchMissing after_lack

    no_lack : LacksBranch version node cards branches → ⊥
    no_lack = not_wrong (LacksBranch version node cards branches) BranchMissing after_lack (none_later (turn → ⊥) TreeShape after_turn none)

    no_wrong : HasWrongBranch node cards branches → ⊥
    no_wrong =
        not_wrong (HasWrongBranch node cards branches) BranchExtra NoFault
        (none_later (LacksBranch version node cards branches) BranchMissing after_lack (none_later (turn → ⊥) TreeShape after_turn none))

-- ---- leaves
lists_right : (graph : GraphShape) (node : Node) (cards : List PatCard) (children : List Child) → ((ListsWinners graph node cards children → ⊥) → ⊥) → ListsWinners graph node cards children
lists_right graph node cards children unlikely seat = (
  (λ listed. not_not (HasToGoOn graph node cards seat) (has_to_go_on graph node cards seat) (λ fails. unlikely (λ lists. fails ((lists seat).0 listed)))),
  λ goes. not_not (IsListed children seat) (is_listed children seat) (λ fails. unlikely (λ lists. fails ((lists seat).1 goes))),
)

-- the node of this number
there_is : (nodes : List Node) (number : ℕ) → number < length nodes → (next : Node) × (slice_get nodes number ≡ Some next)
there_is [] number less = absurd (omega arith)
there_is (first ∷ rest) number less = (get_or (first ∷ rest) number first, slice_get-at (first ∷ rest) number first less)

child_right : (graph : GraphShape) (node : Node) (cards : List PatCard) (child : Child) (rest : List Child) → child.number < length graph.nodes →
    ((fault : StepFault) → IsChildrenFault graph node cards (child ∷ rest) fault → ⊥) → IsRightChild graph node cards child × ((fault : StepFault) → IsChildrenFault graph node cards rest fault → ⊥)
child_right graph node cards child rest less none = (
  (
    next,
    there,
    record {
      lead = not_not (next.lead ≡ child.winner) (same_seat next.lead child.winner) (λ fails. not_wrong (HasWrongLead graph child) ChildLead after_lead none (next, there, fails));
      need = enough (is_less next.need (need_after graph.side node.need child.winner));
      pattern = not_not (CoversRest graph.version next.pattern node cards) (covers_rest graph.version next.pattern node cards) (λ fails. not_wrong (FailsToCover graph node cards child) ChildPattern after_pattern (none_later (NeedsTooLittle graph node child) ChildNeed after_need none') (next, there, fails));
    },
  ),
  none_later (FailsToCover graph node cards child) ChildPattern after_pattern (none_later (NeedsTooLittle graph node child) ChildNeed after_need none'),
)
  where
    found : (next : Node) × (slice_get graph.nodes child.number ≡ Some next)
    found = there_is graph.nodes child.number less

    next : Node
    next = found.0

    there : slice_get graph.nodes child.number ≡ Some next
    there = found.1

    after_pattern : StepFault → Type 0
    after_pattern = IsChildrenFault graph node cards rest

    after_need : StepFault → Type 0
    after_need = IfWrong (FailsToCover graph node cards child) ChildPattern after_pattern

    after_lead : StepFault → Type 0
    after_lead = IfWrong (NeedsTooLittle graph node child) ChildNeed after_need

    none' : (fault : StepFault) → after_lead fault → ⊥
    none' = none_later (HasWrongLead graph child) ChildLead after_lead none

    enough : Decided (next.need < need_after graph.side node.need child.winner) → need_after graph.side node.need child.winner ≤ next.need
    enough (inl less') = absurd (not_wrong (NeedsTooLittle graph node child) ChildNeed after_need none' (next, there, less'))
    enough (inr fails) = elim (cases_lt next.need (need_after graph.side node.need child.winner)) [ inl less' ↦ absurd (fails less') | inr more ↦ more ]

children_right : (graph : GraphShape) (node : Node) (cards : List PatCard) (children : List Child) → All (λ child. child.number < length graph.nodes) children →
    ((fault : StepFault) → IsChildrenFault graph node cards children fault → ⊥) → All (IsRightChild graph node cards) children
children_right graph node cards [] named none = All-nil (IsRightChild graph node cards)
children_right graph node cards (child ∷ rest) named none =
    let first = child_right graph node cards child rest (All-head (λ (c : Child). c.number < length graph.nodes) child rest named) none in
    All-cons (IsRightChild graph node cards) child rest first.0
    (children_right graph node cards rest (All-tail (λ (c : Child). c.number < length graph.nodes) child rest named) first.1)

leaf_right : (graph : GraphShape) (node : Node) (cards : List PatCard) (children : List Child) → All (λ child. child.number < length graph.nodes) children →
    ((fault : StepFault) → IsLeafFault graph node cards children fault → ⊥) → IsRightLeaf graph node cards children
leaf_right graph node cards children named none = record {
  whole = not_not (length cards ≡ 4) (cases_eq (length cards) 4) (not_wrong (length cards ≢ 4) TreeShape after_end none);
  winners = lists_right graph node cards children (not_wrong (lists → ⊥) LeafWinners after_winners (none_later (length cards ≢ 4) TreeShape after_end none));
  each = children_right graph node cards children named (none_later (lists → ⊥) LeafWinners after_winners (none_later (length cards ≢ 4) TreeShape after_end none));
}
  where
    lists : Type 0
    lists = ListsWinners graph node cards children

    after_winners : StepFault → Type 0
    after_winners = IsChildrenFault graph node cards children

    after_end : StepFault → Type 0
    after_end = IfWrong (lists → ⊥) LeafWinners after_winners

-- ---- trees
mutual
  pub holds_without : (graph : GraphShape) (node : Node) (cards : List PatCard) (tree : TrickTree) → NamesBelow (length graph.nodes) tree →
      ((fault : StepFault) → IsFirstFault graph node cards tree fault → ⊥) → HoldsFrom graph node cards tree
  holds_without graph node cards (Own card tree) named none =
      let right = own_right graph.side node cards card (λ fault own. none fault (inl own)) in
      own_holds graph node cards card tree right (holds_without graph node (cards ++ card ∷ []) tree named (λ fault below. none fault (inr (right, below))))
  holds_without graph node cards (Reply branches) named none =
      let right = reply_right graph.version graph.side node cards branches (λ fault reply. none fault (inl reply)) in
      reply_holds graph node cards branches right (hold_without graph node cards branches named (λ fault below. none fault (inr (right, below))))
  holds_without graph node cards (Leaf children) named none = leaf_holds graph node cards children (leaf_right graph node cards children (All-from_recursion (λ (c : Child). c.number < length graph.nodes) children named) none)

  pub hold_without : (graph : GraphShape) (node : Node) (cards : List PatCard) (branches : Branches) → NameBelow (length graph.nodes) branches →
      ((fault : StepFault) → IsFirstFaultAmong graph node cards branches fault → ⊥) → HoldAmong graph node cards branches
  hold_without graph node cards NoBranch named none = none_hold graph node cards
  hold_without graph node cards (Branch card tree rest) named none =
      let first = holds_without graph node (cards ++ card ∷ []) tree named.0 (λ fault told. none fault (inl told)) in
      more_hold graph node cards card tree rest first (hold_without graph node cards rest named.1 (λ fault later. none fault (inr (first, later))))

-- ---- graphs
-- what the nodes of a graph name
node_names : (graph : GraphShape) (number : ℕ) (node : Node) → IsGraph graph → slice_get graph.nodes number ≡ Some node → NamesBelow (length graph.nodes) node.tree
node_names graph number node is there =
    let less = slice_get-within graph.nodes number node there in
    let same : Some (get_or graph.nodes number node) ≡ Some node = sym (slice_get-at graph.nodes number node less) ∙ there in
    let here : get_or graph.nodes number node ≡ node = cc in
    subst (λ (n : Node). NamesBelow (length graph.nodes) n.tree) here (is.each number node less).children

-- the nodes below a number hold
hold_below : (graph : GraphShape) → IsGraph graph → ((fault : NodeFault) → IsGraphFault graph fault → ⊥) → (n number : ℕ) (node : Node) → number < n → slice_get graph.nodes number ≡ Some node → HoldsFrom graph node [] node.tree
hold_below graph is none zero number node less there = absurd (omega arith)
hold_below graph is none (suc n) number node less there =
    elim (cases_lt number n) [
      | inl less' ↦ hold_below graph is none n number node less' there
      | inr more ↦ holds_without graph node [] node.tree (node_names graph number node is there) (λ fault told.
          none (record { number = number; fault = fault })
          (record { node = node; there = there; first = told; before = λ number' earlier less' there'. hold_below graph is none n number' earlier (omega arith) there' }))
    ]

pub steps_hold : (graph : GraphShape) → IsGraph graph → ((fault : NodeFault) → IsGraphFault graph fault → ⊥) → StepsHold graph
steps_hold graph is none number node there = hold_below graph is none (suc number) number node (omega arith) there
