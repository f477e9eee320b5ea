-- Branches, one after another: their cards in a set, and what is told of them.
use Rattle.std.proofs.Common.{◌≡◌, ℕ, ◌^◌, ◌<◌, ◌≤◌, List, length, [], ◌∷◌, ◌++◌, Option, None, Some, inl, inr, refl, sym, ◌∙◌, ap, subst, arith, ◌↔◌}
use Rattle.std.specs.Prelude.{◌⊎◌, MatchOption, bit_or}
use Rattle.std.specs.Int.{bit_at}
use Rattle.std.proofs.lemmas.Nat.Bits.{bit_at-zero}
use Rattle.pattern_step.specs.declared.pat_cards.PatCard.{PatCard}
use Rattle.certificate_graph.specs.declared.nodes.Node.{Node}
use Rattle.certificate_graph.specs.Trees.{TrickTree, Branches, NoBranch, Branch, tree_size, branches_size}
use Rattle.certificate_graph.specs.Graphs.{GraphShape, NameBelow, NamesBelow}
use Rattle.checker.specs.declared.faults.StepFault.{StepFault}
use Rattle.checker.specs.Places.{HasBranchOf}
use Rattle.checker.specs.Steps.{MayComeNext}
use Rattle.checker.specs.Faults.{HoldsFrom, HoldAmong, IsFirstFault, IsFirstFaultAmong}
use Rattle.checker.specs.CardSets.{place_in_set, HasBranchIn}
use Rattle.checker.proofs.CardSetLaws.{or_bit, one_bit}
use Rattle.checker.proofs.HoldLaws.{none_hold, more_hold}

-- the branches that are still to be looked at
abbrev pub to_come : Option (PatCard × TrickTree × Branches) → Branches
to_come None = NoBranch
to_come (Some first) = Branch first.0 first.1 first.2

pub all_come : (branches : Branches) (next : Option (PatCard × TrickTree × Branches)) → MatchOption next (branches ≡ NoBranch) (λ first. branches ≡ Branch first.0 first.1 first.2) → to_come next ≡ branches
all_come branches None begins = sym begins
all_come branches (Some first) begins = sym begins

-- ---- their cards in a set
-- each card of a branch has its bit, or is to come
abbrev pub HasPut : Branches → Branches → ℕ → Type 0
HasPut branches left set = (bit : ℕ) → ((bit_at set bit ≡ 1) ⊎ HasBranchIn left bit) ↔ HasBranchIn branches bit

pub none_put : (branches left : Branches) → left ≡ branches → HasPut branches left 0
none_put branches left all bit = (
  λ h. elim h [
    | inl none ↦ absurd (omega (arith, none, bit_at-zero bit))
    | inr has ↦ subst (λ (b : Branches). HasBranchIn b bit) all has
  ],
  λ has. inr (subst (λ (b : Branches). HasBranchIn b bit) (sym all) has),
)

pub one_put : (branches before rest left : Branches) (card : PatCard) (tree : TrickTree) (set one : ℕ) → before ≡ Branch card tree rest → left ≡ rest → one ≡ 2 ^ place_in_set card →
    HasPut branches before set → HasPut branches left (bit_or set one)
one_put branches before rest left card tree set one is same bit_is told bit =
    let told' : ((bit_at set bit ≡ 1) ⊎ HasBranchIn (Branch card tree rest) bit) ↔ HasBranchIn branches bit = subst (λ (b : Branches). ((bit_at set bit ≡ 1) ⊎ HasBranchIn b bit) ↔ HasBranchIn branches bit) is (told bit) in
    subst (λ (b : Branches). ((bit_at (bit_or set one) bit ≡ 1) ⊎ HasBranchIn b bit) ↔ HasBranchIn branches bit) (sym same) (
      (λ h. told'.0 (elim h [
        | inl put ↦ elim ((or_bit set one bit).0 put) [
          | inl earlier ↦ inl earlier
          | inr last ↦ inr (card, (one_bit (place_in_set card) bit).0 (ap (λ n. bit_at n bit) (sym bit_is) ∙ last), (tree, inl (refl, refl)))
        ]
        | inr later ↦ inr (later.0, later.1, (later.2.0, inr later.2.1))
      ])),
      λ has. elim (told'.1 has) [
        | inl earlier ↦ inl ((or_bit set one bit).1 (inl earlier))
        | inr there ↦ elim there.2.1 [
          | inl here ↦ inl ((or_bit set one bit).1 (inr (ap (λ n. bit_at n bit) bit_is ∙ (one_bit (place_in_set card) bit).1 (ap place_in_set here.0 ∙ there.1))))
          | inr later ↦ inr (there.0, there.1, (there.2.0, later))
        ]
      ],
    )

-- in the end none is to come
pub all_put : (branches left : Branches) (set : ℕ) → left ≡ NoBranch → HasPut branches left set → (bit : ℕ) → (bit_at set bit ≡ 1) ↔ HasBranchIn branches bit
all_put branches left set none told bit =
    let told' : ((bit_at set bit ≡ 1) ⊎ HasBranchIn NoBranch bit) ↔ HasBranchIn branches bit = subst (λ (b : Branches). ((bit_at set bit ≡ 1) ⊎ HasBranchIn b bit) ↔ HasBranchIn branches bit) none (told bit) in (
      (λ one. told'.0 (inl one)),
      λ has. elim (told'.1 has) [
        | inl one ↦ one
        | inr there ↦ absurd there.2.1
      ],
    )

-- ---- what is told of them
-- All is right below the branches before these: what is told of these is told of all.
pub record TellOfAll (graph : GraphShape) (node : Node) (cards : List PatCard) (branches left : Branches) : Type 0 where
  pub hold : HoldAmong graph node cards left → HoldAmong graph node cards branches
  pub first : (fault : StepFault) → IsFirstFaultAmong graph node cards left fault → IsFirstFaultAmong graph node cards branches fault
  pub legal : (card : PatCard) → HasBranchOf left card → MayComeNext node cards card
  pub named : NameBelow (length graph.nodes) left
  pub smaller : branches_size left ≤ branches_size branches

pub all_tell : (graph : GraphShape) (node : Node) (cards : List PatCard) (branches left : Branches) → left ≡ branches → ((card : PatCard) → HasBranchOf branches card → MayComeNext node cards card) →
    NameBelow (length graph.nodes) branches → TellOfAll graph node cards branches left
all_tell graph node cards branches left all legal named = subst (λ (b : Branches). TellOfAll graph node cards branches b) (sym all) (record {
  hold = λ hold. hold;
  first = λ fault first. first;
  legal = legal;
  named = named;
  smaller = omega arith;
})

pub rest_tell : (graph : GraphShape) (node : Node) (cards next : List PatCard) (branches before rest left : Branches) (card : PatCard) (tree : TrickTree) → before ≡ Branch card tree rest → left ≡ rest →
    next ≡ cards ++ card ∷ [] → HoldsFrom graph node next tree → TellOfAll graph node cards branches before → TellOfAll graph node cards branches left
rest_tell graph node cards next branches before rest left card tree is same played right tell =
    let right' : HoldsFrom graph node (cards ++ card ∷ []) tree = subst (λ (l : List PatCard). HoldsFrom graph node l tree) played right in
    let tell' = subst (TellOfAll graph node cards branches) is tell in
    subst (TellOfAll graph node cards branches) (sym same) (record {
      hold = λ others. tell'.hold (more_hold graph node cards card tree rest right' others);
      first = λ fault later. tell'.first fault (inr (right', later));
      legal = λ other has. tell'.legal other (has.0, inr has.1);
      named = tell'.named.1;
      smaller = omega (arith, tell'.smaller);
    })

-- the first of these
pub first_told : (graph : GraphShape) (node : Node) (cards : List PatCard) (branches before rest : Branches) (card : PatCard) (tree : TrickTree) → before ≡ Branch card tree rest →
    TellOfAll graph node cards branches before → (tree_size tree < branches_size branches) × MayComeNext node cards card × NamesBelow (length graph.nodes) tree
first_told graph node cards branches before rest card tree is tell =
    let tell' = subst (TellOfAll graph node cards branches) is tell in
    (omega (arith, tell'.smaller), tell'.legal card (tree, inl (refl, refl)), tell'.named.0)

pub fault_told : (graph : GraphShape) (node : Node) (cards next : List PatCard) (branches before rest : Branches) (card : PatCard) (tree : TrickTree) (fault : StepFault) → before ≡ Branch card tree rest →
    next ≡ cards ++ card ∷ [] → IsFirstFault graph node next tree fault → TellOfAll graph node cards branches before → IsFirstFaultAmong graph node cards branches fault
fault_told graph node cards next branches before rest card tree fault is played first tell =
    (subst (TellOfAll graph node cards branches) is tell).first fault (inl (subst (λ (l : List PatCard). IsFirstFault graph node l tree fault) played first))

-- in the end none is to come
pub none_tell : (graph : GraphShape) (node : Node) (cards : List PatCard) (branches left : Branches) → left ≡ NoBranch → TellOfAll graph node cards branches left → HoldAmong graph node cards branches
none_tell graph node cards branches left none tell = (subst (TellOfAll graph node cards branches) none tell).hold (none_hold graph node cards)
