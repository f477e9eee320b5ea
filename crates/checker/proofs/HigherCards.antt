-- Whether a branch is of a higher card in a run, found place by place.
use Rattle.std.proofs.Common.{◌≡◌, ℕ, suc, ◌<◌, ◌≤◌, List, Some, ◌↔◌, inl, inr, refl, ◌∙◌, ap, subst, arith}
use Rattle.std.specs.Prelude.{◌⊎◌, slice_get}
use Rattle.std.proofs.lemmas.Bool.{cases_lt}
use Rattle.cards.specs.declared.suits.Suit.{Suit}
use Rattle.cards.specs.declared.seats.Seat.{Seat}
use Rattle.patterns.specs.Shapes.{Shape, suit_of}
use Rattle.pattern_step.specs.declared.pat_cards.PatCard.{PatCard}
use Rattle.pattern_step.specs.declared.pat_cards.PatCard.TheVariants.{Top, Low}
use Rattle.pattern_step.specs.PatCards.{HasCard}
use Rattle.pattern_step.specs.Runs.{IsLowerInRun}
use Rattle.certificate_graph.specs.Trees.{Branches}
use Rattle.checker.specs.Places.{HasBranchOf}
use Rattle.checker.specs.Steps.{HasHigher}

-- the seat has this card, and a branch is of it or of a higher one in its run
abbrev pub HasHere : Shape → Seat → Branches → PatCard → Type 0
HasHere shape seat branches card = HasCard shape seat card × (HasBranchOf branches card ⊎ HasHigher shape seat branches card)

pub low_has_none : (shape : Shape) (seat : Seat) (branches : Branches) (suit : Suit) → HasHigher shape seat branches (Low suit) → ⊥
low_has_none shape seat branches suit (higher, run, has) = let both : Low suit ≡ Top run.suit run.last = run.is_last in cc

-- what a run says where its lower card is this top
record RunOf (shape : Shape) (seat : Seat) (suit : Suit) (last : ℕ) (higher : PatCard) : Type 0 where
  first : ℕ
  is_first : higher ≡ Top suit first
  below : first < last
  owned : (place : ℕ) → first ≤ place → place ≤ last → slice_get (suit_of shape suit).owners place ≡ Some seat

run_of : (shape : Shape) (seat : Seat) (suit : Suit) (last : ℕ) (higher : PatCard) → IsLowerInRun shape seat (Top suit last) higher → RunOf shape seat suit last higher
run_of shape seat suit last higher run =
    let both : Top suit last ≡ Top run.suit run.last = run.is_last in
    let of_suit : run.suit ≡ suit = cc in
    let at : run.last ≡ last = cc in
    record {
      first = run.first;
      is_first = run.is_first ∙ ap (λ (s : Suit). Top s run.first) of_suit;
      below = omega (arith, run.below, at);
      owned = λ place more less. subst (λ (s : Suit). slice_get (suit_of shape s).owners place ≡ Some seat) of_suit (run.owned place more (omega (arith, less, at)));
    }

pub first_has_none : (shape : Shape) (seat : Seat) (branches : Branches) (suit : Suit) → HasHigher shape seat branches (Top suit 0) → ⊥
first_has_none shape seat branches suit (higher, run, has) = absurd (omega (arith, (run_of shape seat suit 0 higher run).below))

-- a run with one place more
longer : (owners : List Seat) (seat : Seat) (first last above : ℕ) → last ≡ suc above → slice_get owners last ≡ Some seat → ((n : ℕ) → first ≤ n → n ≤ above → slice_get owners n ≡ Some seat) →
    (n : ℕ) → first ≤ n → n ≤ last → slice_get owners n ≡ Some seat
longer owners seat first last above is has run n more less =
    elim (cases_lt n last) [
      | inl before ↦ run n more (omega (arith, is))
      | inr end ↦ (let e : last ≡ n = omega arith in subst (λ (m : ℕ). slice_get owners m ≡ Some seat) e has)
    ]

-- A branch is of a higher card than a top, in a run of the seat, just where the seat has the top and the next higher one, and
-- a branch is of that one or of a higher one still.
pub higher_cases : (shape : Shape) (seat : Seat) (branches : Branches) (suit : Suit) (place above : ℕ) → place ≡ suc above →
    (HasCard shape seat (Top suit place) × HasHere shape seat branches (Top suit above)) ↔ HasHigher shape seat branches (Top suit place)
higher_cases shape seat branches suit place above is = (
  λ (has, here). elim here.1 [
    | inl branch ↦ (
      Top suit above,
      record {
        suit = suit;
        first = above;
        last = place;
        is_last = refl;
        is_first = refl;
        below = omega (arith, is);
        owned = longer owners seat above place above is has (λ n more less. let e : above ≡ n = omega arith in subst (λ (m : ℕ). slice_get owners m ≡ Some seat) e here.0);
      },
      branch,
    )
    | inr further ↦ (
      further.0,
      (let run = run_of shape seat suit above further.0 further.1 in record {
        suit = suit;
        first = run.first;
        last = place;
        is_last = refl;
        is_first = run.is_first;
        below = omega (arith, run.below, is);
        owned = longer owners seat run.first place above is has run.owned;
      }),
      further.2,
    )
  ],
  λ (higher, lower, branch). let run = run_of shape seat suit place higher lower in (
    run.owned place (omega (arith, run.below)) (omega arith),
    (run.owned above (omega (arith, run.below, is)) (omega (arith, is)), above_it run branch),
  ),
)
  where
    owners : List Seat
    owners = (suit_of shape suit).owners

    above_it : {higher : PatCard} → RunOf shape seat suit place higher → HasBranchOf branches higher → HasBranchOf branches (Top suit above) ⊎ HasHigher shape seat branches (Top suit above)
    above_it {higher} run branch = elim (cases_lt run.first above) [
      | inl less ↦ inr (higher, record { suit = suit; first = run.first; last = above; is_last = refl; is_first = run.is_first; below = less; owned = λ n more less'. run.owned n more (omega (arith, less', is)) }, branch)
      | inr more ↦ inl (let e : run.first ≡ above = omega (arith, run.below, is, more) in subst (HasBranchOf branches) (run.is_first ∙ ap (Top suit) e) branch)
    ]
