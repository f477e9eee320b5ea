-- The faults of a begun node: there is none exactly if it is right, and there are no two.
use Rattle.std.proofs.Common.{◌≡◌, ℕ, zero, suc, ◌<◌, List, [], ◌∷◌, length, take, inl, inr, refl, sym, subst, arith}
use Rattle.std.proofs.lemmas.Bool.{cases_eq}
use Rattle.cards.specs.Seats.{seat_in_place}
use Rattle.pattern_step.specs.declared.pat_cards.PatCard.{PatCard}
use Rattle.pattern_step.specs.PatCards.{IsLegal}
use Rattle.pattern_step.specs.Tricks.{played_in_place, suit_led_by}
use Rattle.certificate_graph.specs.declared.nodes.Node.{Node}
use Rattle.certificate_graph.specs.Trees.{TrickTree, Own, Reply, Leaf, Branches, NoBranch, Branch}
use Rattle.certificate_graph.specs.Graphs.{GraphShape, IsNode}
use Rattle.checker.specs.declared.faults.StepFault.{StepFault}
use Rattle.checker.specs.declared.faults.StepFault.TheVariants.{CardNotLegal, TreeShape}
use Rattle.checker.specs.Places.{HasBranch, LeadsTo}
use Rattle.checker.specs.Steps.{BeginLine}
use Rattle.checker.specs.Faults.{IfWrong, IsFirstFault}
use Rattle.checker.specs.Begun.{IsPathIn, IsRightBegun, IsFaultAfter, IsBegunFault}
use Rattle.check_laws.specs.Begun.{HasNoFaultWhereRight, HasOneBegunFault}
use Rattle.check_laws.proofs.Decisions.{Decided, not_not, alike, both, same_card, is_legal}
use Rattle.checker.proofs.FaultLaws.{one_of, none_of, none_first, one_first}
use Rattle.check_laws.proofs.NoFaultLaws.{not_wrong, none_later, holds_without}
use Rattle.checker.proofs.PathLaws.{one_place, names_after}
use Rattle.checker.proofs.BegunLaws.{step_holds_there, fault_there}
use Rattle.checker.proofs.BegunIsSound.{holds_from_there}

-- ---- what can be decided
-- the cards are a path that begins with one of the branches
abbrev IsPathBelow : Branches → PatCard → List PatCard → Type 0
IsPathBelow branches card cards = (place : TrickTree) × ((below : TrickTree) × HasBranch branches card below × LeadsTo below cards place)

mutual
  is_path : (tree : TrickTree) (cards : List PatCard) → Decided (IsPathIn tree cards)
  is_path tree [] = inl (tree, refl)
  is_path (Own own tree) (card ∷ cards) =
      alike ((own ≡ card) × IsPathIn tree cards) (IsPathIn (Own own tree) (card ∷ cards)) ((λ h. (h.1.0, (h.0, h.1.1))), λ h. (h.1.0, (h.0, h.1.1)))
      (both (own ≡ card) (IsPathIn tree cards) (same_card own card) (is_path tree cards))
  is_path (Reply branches) (card ∷ cards) = is_path_below branches card cards
  is_path (Leaf children) (card ∷ cards) = inr (λ h. h.1)

  is_path_below : (branches : Branches) (card : PatCard) (cards : List PatCard) → Decided (IsPathBelow branches card cards)
  is_path_below NoBranch card cards = inr (λ h. h.1.1)
  is_path_below (Branch first tree rest) card cards =
      elim (both (first ≡ card) (IsPathIn tree cards) (same_card first card) (is_path tree cards)) [
        | inl here ↦ inl (here.1.0, (tree, inl (here.0, refl), here.1.1))
        | inr not ↦ elim (is_path_below rest card cards) [
          | inl later ↦ inl (later.0, (later.1.0, inr later.1.1, later.1.2))
          | inr none ↦ inr (λ h. elim h.1.1 [
            | inl here ↦ not (here.0, (h.0, subst (λ (t : TrickTree). LeadsTo t cards h.0) (sym here.1) h.1.2))
            | inr later ↦ none (h.0, (h.1.0, later, h.1.2))
          ])
        ]
      ]

-- each below some number
each_below : (P : ℕ → Type 0) → ((n : ℕ) → Decided (P n)) → (count : ℕ) → Decided ((n : ℕ) → n < count → P n)
each_below P decide zero = inl (λ n less. absurd (omega arith))
each_below P decide (suc count) =
    alike (((n : ℕ) → n < count → P n) × P count) ((n : ℕ) → n < suc count → P n) (
      (λ h n less. elim (cases_eq n count) [
        | inl is ↦ subst P (sym is) h.1
        | inr not ↦ h.0 n (omega (arith, less, not))
      ]),
      λ each. ((λ n less. each n (omega arith)), each count (omega arith)),
    ) (both ((n : ℕ) → n < count → P n) (P count) (each_below P decide count) (decide count))

begin_line : (node : Node) (cards : List PatCard) → Decided (BeginLine node cards)
begin_line node cards = each_below (λ place. IsLegal node.pattern (seat_in_place node.lead place) (suit_led_by (take place cards)) (played_in_place cards place))
    (λ place. is_legal node.pattern (seat_in_place node.lead place) (suit_led_by (take place cards)) (played_in_place cards place)) (length cards)

-- ---- none exactly if it is right
none_of_begun : (graph : GraphShape) (node : Node) (cards : List PatCard) → IsRightBegun graph node cards → (fault : StepFault) → IsBegunFault graph node cards fault → ⊥
none_of_begun graph node cards right fault =
    none_of (IsPathIn node.tree cards → ⊥) TreeShape after_path fault (λ wrong. wrong right.path)
    (none_of (BeginLine node cards → ⊥) CardNotLegal (IsFaultAfter graph node cards) fault (λ wrong. wrong right.legal)
    (λ (place, leads, first). none_first graph node cards place fault (holds_from_there graph node cards place right.holds leads) first))
  where
    after_path : StepFault → Type 0
    after_path = IfWrong (BeginLine node cards → ⊥) CardNotLegal (IsFaultAfter graph node cards)

right_without : (graph : GraphShape) (node : Node) (cards : List PatCard) → IsNode (length graph.nodes) node → ((fault : StepFault) → IsBegunFault graph node cards fault → ⊥) → IsRightBegun graph node cards
right_without graph node cards is none = record {
  path = path;
  legal = legal;
  holds = step_holds_there graph node cards path.0 (4, is.form) path.1
      (holds_without graph node cards path.0 (names_after (length graph.nodes) node.tree cards path.0 is.children path.1)
      (λ fault first. none fault (fault_there graph node cards path fault legal first)));
}
  where
    after_path : StepFault → Type 0
    after_path = IfWrong (BeginLine node cards → ⊥) CardNotLegal (IsFaultAfter graph node cards)

    path : IsPathIn node.tree cards
    path = not_not (IsPathIn node.tree cards) (is_path node.tree cards) (not_wrong (IsPathIn node.tree cards → ⊥) TreeShape after_path none)

    legal : BeginLine node cards
    legal = not_not (BeginLine node cards) (begin_line node cards)
        (not_wrong (BeginLine node cards → ⊥) CardNotLegal (IsFaultAfter graph node cards) (none_later (IsPathIn node.tree cards → ⊥) TreeShape after_path none))

pub no_fault_where_right : HasNoFaultWhereRight
no_fault_where_right graph node cards is = (none_of_begun graph node cards, right_without graph node cards is)

-- ---- no two
pub one_begun_fault : HasOneBegunFault
one_begun_fault graph node cards one other tree told told' =
    one_of (IsPathIn node.tree cards → ⊥) TreeShape after_path one other
    (one_of (BeginLine node cards → ⊥) CardNotLegal (IsFaultAfter graph node cards) one other
    (λ (place, leads, first) (place', leads', first'). one_first graph node cards place one other first
    (subst (λ (t : TrickTree). IsFirstFault graph node cards t other) (one_place node.tree cards place' place tree leads' leads) first')))
    told told'
  where
    after_path : StepFault → Type 0
    after_path = IfWrong (BeginLine node cards → ⊥) CardNotLegal (IsFaultAfter graph node cards)
