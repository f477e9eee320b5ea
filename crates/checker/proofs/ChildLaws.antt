-- The nodes that go on after a trick, one after another.
use Rattle.std.proofs.Common.{◌≡◌, ℕ, ◌≤◌, List, [], ◌∷◌, ◌<◌, length, Option, None, Some, All, ◌⊎◌, inl, inr, sym, ◌∙◌, ap, subst, arith}
use Rattle.std.specs.Prelude.{slice_get, MatchOption}
use Rattle.std.proofs.lemmas.List.Elements.{All-nil, All-head, All-cons, All-tail, Contains-append_left, Contains-append_right, Contains-append_cases, Contains-push, Contains-push_cases}
use Rattle.cards.specs.declared.seats.Seat.{Seat}
use Rattle.patterns.specs.Shapes.{Shape, Covers}
use Rattle.patterns.proofs.CompletionLaws.{Covers-completed}
use Rattle.pattern_step.specs.declared.pat_cards.PatCard.{PatCard}
use Rattle.pattern_step.specs.Tricks.{IsLeft}
use Rattle.pattern_step.proofs.TrickLaws.{one_left}
use Rattle.certificate_graph.specs.declared.children.Child.{Child}
use Rattle.certificate_graph.specs.declared.nodes.Node.{Node}
use Rattle.certificate_graph.specs.declared.versions.Version.{Version}
use Rattle.certificate_graph.specs.declared.versions.Version.TheVariants.{One, Two}
use Rattle.certificate_graph.specs.Graphs.{GraphShape}
use Rattle.checker.specs.declared.faults.StepFault.{StepFault}
use Rattle.checker.specs.Steps.{need_after, IsListed, rest_read, IsRightChild}
use Rattle.checker.specs.Faults.{HasWrongLead, NeedsTooLittle, FailsToCover, IsChildrenFault}

-- one node stands under a number
pub same_node : (nodes : List Node) (number : ℕ) (one other : Node) → slice_get nodes number ≡ Some one → slice_get nodes number ≡ Some other → one ≡ other
same_node nodes number one other there there' = let e : Some one ≡ Some other = sym there ∙ there' in cc

pub right_lead : (graph : GraphShape) (child : Child) (next : Node) → slice_get graph.nodes child.number ≡ Some next → next.lead ≡ child.winner → HasWrongLead graph child → ⊥
right_lead graph child next there is (other, there', wrong) = wrong (ap (λ (n : Node). n.lead) (same_node graph.nodes child.number other next there' there) ∙ is)

pub right_need : (graph : GraphShape) (node : Node) (child : Child) (next : Node) → slice_get graph.nodes child.number ≡ Some next → need_after graph.side node.need child.winner ≤ next.need → NeedsTooLittle graph node child → ⊥
right_need graph node child next there enough (other, there', less) =
    let is = ap (λ (n : Node). n.need) (same_node graph.nodes child.number other next there' there) in
    absurd (omega arith)

pub right_pattern : (graph : GraphShape) (node : Node) (cards : List PatCard) (child : Child) (next : Node) (left : Shape) → slice_get graph.nodes child.number ≡ Some next → IsLeft node.pattern node.lead cards left → Covers next.pattern (rest_read graph.version left) →
    FailsToCover graph node cards child → ⊥
right_pattern graph node cards child next left there is covers (other, there', fails) =
    fails (left, is, subst (λ (n : Node). Covers n.pattern (rest_read graph.version left)) (same_node graph.nodes child.number next other there there') covers)

pub wrong_pattern : (graph : GraphShape) (node : Node) (cards : List PatCard) (child : Child) (next : Node) (left : Shape) → slice_get graph.nodes child.number ≡ Some next → IsLeft node.pattern node.lead cards left → (Covers next.pattern (rest_read graph.version left) → ⊥) →
    FailsToCover graph node cards child
wrong_pattern graph node cards child next left there is fails =
    (next, there, λ (rest, is', covers). fails (subst (λ (s : Shape). Covers next.pattern (rest_read graph.version s)) (one_left node.pattern node.lead cards rest left is' is) covers))

-- what covers the rest covers it as each version reads it
pub read_covered : (version : Version) (pattern rest : Shape) → Covers pattern rest → Covers pattern (rest_read version rest)
read_covered One pattern rest covers = covers
read_covered Two pattern rest covers = Covers-completed pattern rest covers

-- the fault of the first child is that of all
pub here : (graph : GraphShape) (node : Node) (cards : List PatCard) (child : Child) (rest : List Child) (fault : StepFault) → IsChildrenFault graph node cards (child ∷ []) fault → IsChildrenFault graph node cards (child ∷ rest) fault
here graph node cards child rest fault told =
    elim told [
      | inl lead ↦ inl lead
      | inr more ↦ inr (
        more.0,
        elim more.1 [
          | inl need ↦ inl need
          | inr more' ↦ inr (
            more'.0,
            elim more'.1 [
              | inl pattern ↦ inl pattern
              | inr none ↦ absurd none.1
            ],
          )
        ],
      )
    ]

later : (graph : GraphShape) (node : Node) (cards : List PatCard) (child : Child) (rest : List Child) (fault : StepFault) → IsRightChild graph node cards child → IsChildrenFault graph node cards rest fault → IsChildrenFault graph node cards (child ∷ rest) fault
later graph node cards child rest fault (next, there, goes_on) told =
    inr (
      right_lead graph child next there goes_on.lead,
      inr (
        right_need graph node child next there goes_on.need,
        inr (right_pattern graph node cards child next goes_on.pattern.0 there goes_on.pattern.1 goes_on.pattern.2, told),
      ),
    )

-- the children that are still to be looked at
abbrev pub to_come : Option (Child × List Child) → List Child
to_come None = []
to_come (Some first) = first.0 ∷ first.1

abbrev pub Begins : List Child → Option (Child × List Child) → Type 0
Begins children next = MatchOption next (children ≡ []) (λ first. children ≡ first.0 ∷ first.1)

pub all_come : (children : List Child) (next : Option (Child × List Child)) → Begins children next → to_come next ≡ children
all_come children None begins = sym begins
all_come children (Some first) begins = sym begins

-- The children before these are right: what is told of these is told of all.
pub record TellOfAll (graph : GraphShape) (node : Node) (cards : List PatCard) (children left : List Child) : Type 0 where
  pub right : All (IsRightChild graph node cards) left → All (IsRightChild graph node cards) children
  pub first : (fault : StepFault) → IsChildrenFault graph node cards left fault → IsChildrenFault graph node cards children fault
  pub named : All (λ child. child.number < length graph.nodes) left

pub all_tell : (graph : GraphShape) (node : Node) (cards : List PatCard) (children left : List Child) → left ≡ children → All (λ child. child.number < length graph.nodes) children →
    TellOfAll graph node cards children left
all_tell graph node cards children left all named = subst (λ (l : List Child). TellOfAll graph node cards children l) (sym all) (record {
  right = λ right. right;
  first = λ fault first. first;
  named = named;
})

pub rest_tell : (graph : GraphShape) (node : Node) (cards : List PatCard) (children before rest left : List Child) (child : Child) → before ≡ child ∷ rest → left ≡ rest → IsRightChild graph node cards child →
    TellOfAll graph node cards children before → TellOfAll graph node cards children left
rest_tell graph node cards children before rest left child is same right tell =
    let tell' = subst (TellOfAll graph node cards children) is tell in
    subst (TellOfAll graph node cards children) (sym same) (record {
      right = λ others. tell'.right (All-cons (IsRightChild graph node cards) child rest right others);
      first = λ fault told. tell'.first fault (later graph node cards child rest fault right told);
      named = All-tail (λ child. child.number < length graph.nodes) child rest tell'.named;
    })

pub first_named : (graph : GraphShape) (node : Node) (cards : List PatCard) (children before rest : List Child) (child : Child) → before ≡ child ∷ rest → TellOfAll graph node cards children before →
    child.number < length graph.nodes
first_named graph node cards children before rest child is tell =
    All-head (λ child. child.number < length graph.nodes) child rest (subst (All (λ child. child.number < length graph.nodes)) is tell.named)

pub fault_tells : (graph : GraphShape) (node : Node) (cards : List PatCard) (children before rest : List Child) (child : Child) (fault : StepFault) → before ≡ child ∷ rest →
    IsChildrenFault graph node cards (child ∷ []) fault → TellOfAll graph node cards children before → IsChildrenFault graph node cards children fault
fault_tells graph node cards children before rest child fault is told tell =
    (subst (TellOfAll graph node cards children) is tell).first fault (here graph node cards child rest fault told)

pub none_tell : (graph : GraphShape) (node : Node) (cards : List PatCard) (children left : List Child) → left ≡ [] → TellOfAll graph node cards children left → All (IsRightChild graph node cards) children
none_tell graph node cards children left none tell =
    tell.right (subst (All (IsRightChild graph node cards)) (sym none) (All-nil (IsRightChild graph node cards)))

-- ---- the seats that are listed
pub listed_first : (child : Child) (rest : List Child) → IsListed (child ∷ rest) child.winner
listed_first child rest = (child.number, Contains-append_left (child ∷ []) rest child (Contains-push [] child))

pub listed_later : (child : Child) (rest : List Child) (seat : Seat) → IsListed rest seat → IsListed (child ∷ rest) seat
listed_later child rest seat (number, there) = (number, Contains-append_right (child ∷ []) rest (record { winner = seat; number = number }) there)

pub listed_cases : (child : Child) (rest : List Child) (seat : Seat) → IsListed (child ∷ rest) seat → (child.winner ≡ seat) ⊎ IsListed rest seat
listed_cases child rest seat (number, there) = elim (Contains-append_cases (child ∷ []) rest (record { winner = seat; number = number }) there) [
  | inl first ↦ elim (Contains-push_cases [] child (record { winner = seat; number = number }) first) [
    | inl none ↦ absurd (omega (arith, none.1))
    | inr same ↦ inl (ap (λ (c : Child). c.winner) same)
  ]
  | inr later ↦ inr (number, later)
]
