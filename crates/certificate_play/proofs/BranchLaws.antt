-- Runs that are longer by a card, and branches of higher cards in them.
use Rattle.std.proofs.Common.{◌≡◌, ℕ, suc, [], ◌⊎◌, inl, inr, refl, sym, subst, Option, None, Some}
use Rattle.std.specs.Prelude.{MatchOption}
use Rattle.cards.specs.declared.suits.Suit.{Suit}
use Rattle.cards.specs.declared.seats.Seat.{Seat}
use Rattle.patterns.specs.Shapes.{Shape}
use Rattle.pattern_step.specs.declared.pat_cards.PatCard.{PatCard}
use Rattle.pattern_step.specs.declared.pat_cards.PatCard.TheVariants.{Top}
use Rattle.pattern_step.specs.PatCards.{HasCard}
use Rattle.pattern_step.specs.Runs.{IsLowerInRun}
use Rattle.certificate_graph.specs.Trees.{TrickTree, Leaf, Branches, NoBranch, Branch}
use Rattle.checker.specs.Places.{HasBranchOf}
use Rattle.checker.specs.Steps.{HasHigher}
use Rattle.checker.proofs.HigherCards.{HasHere, higher_cases}
use Rattle.certificate_play.specs.Branches.{GoesAsHigher}

-- a card is below what the next higher one is or is below, in a run of the seat
run_longer : (shape : Shape) (seat : Seat) (suit : Suit) (place above : ℕ) (higher : PatCard) → place ≡ suc above → HasCard shape seat (Top suit place) → HasCard shape seat (Top suit above) →
    (Top suit above ≡ higher) ⊎ IsLowerInRun shape seat (Top suit above) higher → IsLowerInRun shape seat (Top suit place) higher
run_longer shape seat suit place above higher is has has' alike =
    let one = Branch higher (Leaf []) NoBranch in
    let here : HasHere shape seat one (Top suit above) = (
      has',
      elim alike [
        | inl same ↦ inl (Leaf [], inl (sym same, refl))
        | inr run ↦ inr (higher, run, (Leaf [], inl (refl, refl)))
      ],
    ) in
    let found = (higher_cases shape seat one suit place above is).0 (has, here) in
    elim found.2.1 [
      | inl only ↦ subst (IsLowerInRun shape seat (Top suit place)) (sym only.0) found.1
      | inr none ↦ absurd none
    ]

pub goes_further : (shape : Shape) (seat : Seat) (branches : Branches) (suit : Suit) (place above : ℕ) (higher : PatCard) (below : TrickTree) → place ≡ suc above → HasCard shape seat (Top suit place) → HasCard shape seat (Top suit above) →
    GoesAsHigher shape seat branches (Top suit above) higher below → GoesAsHigher shape seat branches (Top suit place) higher below
goes_further shape seat branches suit place above higher below is has has' goes = record { run = run_longer shape seat suit place above higher is has has' (inr goes.run); branch = goes.branch }

pub lacks_branches : (shape : Shape) (seat : Seat) (branches : Branches) (suit : Suit) (place above : ℕ) → place ≡ suc above → (HasBranchOf branches (Top suit above) → ⊥) → (HasHigher shape seat branches (Top suit above) → ⊥) →
    HasHigher shape seat branches (Top suit place) → ⊥
lacks_branches shape seat branches suit place above is none further has =
    elim ((higher_cases shape seat branches suit place above is).1 has).1.1 [
      | inl branch ↦ none branch
      | inr higher ↦ further higher
    ]

-- and what was found further on
pub found_further : (shape : Shape) (seat : Seat) (branches : Branches) (suit : Suit) (place above : ℕ) (found : Option (PatCard × TrickTree)) → place ≡ suc above → HasCard shape seat (Top suit place) → HasCard shape seat (Top suit above) →
    (HasBranchOf branches (Top suit above) → ⊥) → MatchOption found (HasHigher shape seat branches (Top suit above) → ⊥) (λ to. GoesAsHigher shape seat branches (Top suit above) to.0 to.1) →
    MatchOption found (HasHigher shape seat branches (Top suit place) → ⊥) (λ to. GoesAsHigher shape seat branches (Top suit place) to.0 to.1)
found_further shape seat branches suit place above None is has has' none told = lacks_branches shape seat branches suit place above is none told
found_further shape seat branches suit place above (Some to) is has has' none told = goes_further shape seat branches suit place above to.0 to.1 is has has' told
