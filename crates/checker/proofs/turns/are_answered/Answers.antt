use Rattle.std.proofs.Common.{◌≡◌, ℕ, zero, suc, ◌+◌, ◌<◌, List, [], ◌∷◌, length, get_or, take, Contains, inl, inr, subst, arith}
use Rattle.std.proofs.lemmas.List.{take_more, take_all}
use Rattle.std.proofs.lemmas.List.Elements.{Contains-append_cases, Contains-get_or}
use Rattle.pattern_step.specs.declared.pat_cards.PatCard.{PatCard}
use Rattle.patterns.proofs.SeatLaws.{not_told}
use Rattle.checker.specs.Steps.{IsAnswered}
use Rattle.checker.proofs.turns.are_answered.Goals as goal

-- what holds of the first cards and of the next
one_more : (P : PatCard → Type 0) (cards : List PatCard) (n : ℕ) (other : PatCard) → n < length cards → ((card : PatCard) → Contains (take n cards) card → P card) → P (get_or cards n other) →
    (card : PatCard) → Contains (take (n + 1) cards) card → P card
one_more P cards n other less before next card within =
    elim (Contains-append_cases (take n cards) (get_or cards n other ∷ []) card (subst (λ (l : List PatCard). Contains l card) (take_more cards n other less) within)) [
      | inl first ↦ before card first
      | inr last ↦ one last.0 last.1 last.2
    ]
  where
    one : (k : ℕ) → k < 1 → get_or (get_or cards n other ∷ []) k card ≡ card → P card
    one zero less is = subst P is next
    one (suc k) less is = absurd (omega arith)

one_fails : (P : PatCard → Type 0) (cards : List PatCard) (n : ℕ) (other : PatCard) → n < length cards → (P (get_or cards n other) → ⊥) → (card : PatCard) × Contains cards card × (P card → ⊥)
one_fails P cards n other less fails = (get_or cards n other, Contains-get_or cards n other less, fails)

pub loop-card-init : goal.loop-card-init
loop-card-init c = λ card within. absurd (omega (arith, within.1))

pub loop-card-preserved : goal.loop-card-preserved
loop-card-preserved c =
    one_more (IsAnswered c.args.version c.args.pattern.now c.args.seat c.args.branches.now) c.args.cards.now c.loop-card.card-index _ c.loop-card-test.true c.loop-card.invariant
    (c.is_answered.ensures.0 c.if-not-is_answered.false)

pub returns : goal.returns
returns c =
    subst (λ (l : List PatCard). (card : PatCard) → Contains l card → IsAnswered c.args.version c.args.pattern.now c.args.seat c.args.branches.now card)
    (take_all c.loop-card.card-index c.args.cards.now c.loop-card-test.false) c.loop-card.invariant

pub returns-then-not-is_answered : goal.returns-then-not-is_answered
returns-then-not-is_answered c =
    one_fails (IsAnswered c.args.version c.args.pattern.now c.args.seat c.args.branches.now) c.args.cards.now c.loop-card.card-index _ c.loop-card-test.true
    (not_told c.is_answered.ensures c.if-not-is_answered.true)
