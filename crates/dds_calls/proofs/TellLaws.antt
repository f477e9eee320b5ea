-- Numbers in places.
use Rattle.std.proofs.Common.{◌≡◌, ◌≢◌, ℕ, zero, suc, ◌+◌, ◌<◌, ◌≤◌, cond, eqb, ℤ, pos, List, [], ◌∷◌, length, get_or, set, refl, sym, ap, ◌∙◌, subst, inl, inr, arith}
use Rattle.std.proofs.Common.{get_or-set_same, get_or-set_other}
use Rattle.std.proofs.lemmas.Bool.{cases_eq, ne_eqb, cond-false}
use Rattle.std.proofs.lemmas.Option.{slice_get_within}
use Rattle.dds_calls.specs.declared.board_shapes.Ask.{Ask}
use Rattle.dds_calls.specs.declared.board_shapes.FutureTricks.{FutureTricks}
use Rattle.dds_calls.specs.declared.lines.Line.{Line}
use Rattle.dds_calls.specs.declared.rules.Rule.{Rule}
use Rattle.dds_calls.specs.Rules.{empty_score}
use Rattle.dds_calls.specs.Telling.{Tells, at_place, blank_with, zeros}

pub set_below : (xs : List ℤ) (n : ℕ) (v : ℤ) (P : ℕ → ℤ → Type 0) → n < length xs → ((k : ℕ) → k < n → P k (get_or xs k (pos 0))) → P n v → (k : ℕ) → k < n + 1 → P k (get_or (set xs n v) k (pos 0))
set_below xs n v P within below here k less =
    elim (cases_eq k n) [
      | inl e ↦
          let same : v ≡ get_or (set xs n v) k (pos 0) = sym (get_or-set_same xs n v (pos 0) within) ∙ ap (λ (i : ℕ). get_or (set xs n v) i (pos 0)) (sym e) in
          subst (λ (z : ℤ). P k z) same (subst (λ (i : ℕ). P i v) (sym e) here)
      | inr ne ↦ subst (λ (z : ℤ). P k z) (sym (get_or-set_other xs n k v (pos 0) ne)) (below k (omega (arith, less, ne)))
    ]

pub set_above : (xs : List ℤ) (n : ℕ) (v : ℤ) → ((k : ℕ) → n ≤ k → get_or xs k (pos 0) ≡ pos 0) → (k : ℕ) → n + 1 ≤ k → get_or (set xs n v) k (pos 0) ≡ pos 0
set_above xs n v above k more =
    let ne : k ≢ n = omega (arith, more) in
    get_or-set_other xs n k v (pos 0) ne ∙ above k (omega (arith, more))

record AreZeros (numbers : List ℤ) : Type 0 where
  at : (k : ℕ) → get_or numbers k (pos 0) ≡ pos 0

no_zero : AreZeros []
no_zero = record { at = λ k. refl }

zero_at : (numbers : List ℤ) → AreZeros numbers → (k : ℕ) → get_or (pos 0 ∷ numbers) k (pos 0) ≡ pos 0
zero_at numbers are zero = refl
zero_at numbers are (suc k) = are.at k

cons_zero : (numbers : List ℤ) → AreZeros numbers → AreZeros (pos 0 ∷ numbers)
cons_zero numbers are = record { at = zero_at numbers are }

twelve : AreZeros (pos 0 ∷ pos 0 ∷ pos 0 ∷ pos 0 ∷ pos 0 ∷ pos 0 ∷ pos 0 ∷ pos 0 ∷ pos 0 ∷ pos 0 ∷ pos 0 ∷ pos 0 ∷ [])
twelve = cons_zero _ (cons_zero _ (cons_zero _ (cons_zero _ (cons_zero _ (cons_zero _ (cons_zero _ (cons_zero _ (cons_zero _ (cons_zero _ (cons_zero _ (cons_zero _ no_zero)))))))))))

thirteen : AreZeros zeros
thirteen = cons_zero _ twelve

pub zeros_at : (k : ℕ) → at_place zeros k ≡ pos 0
zeros_at k = thirteen.at k

first_at : (first : ℤ) (k : ℕ) → at_place (blank_with first).score k ≡ cond (eqb k 0) first (pos 0)
first_at first zero = refl
first_at first (suc k) =
    let ne : suc k ≢ 0 = omega arith in
    twelve.at k ∙ sym (cond-false (eqb (suc k) 0) first (pos 0) (ne_eqb (suc k) 0 ne))

pub blank_tells : (ask : Ask) (rule : Rule) (lines : List Line) (told : FutureTricks) → length lines ≡ 0 → told ≡ blank_with (empty_score rule) → Tells ask rule lines told
blank_tells ask rule lines told none e =
    let tells : Tells ask rule lines (blank_with (empty_score rule)) = record {
      nodes = refl;
      cards = ap pos (sym none);
      each = λ place line at. absurd (omega (arith, none, slice_get_within lines place line at));
      rest = λ place more. record { suit = zeros_at place; rank = zeros_at place; equals = zeros_at place; score = first_at (empty_score rule) place };
    } in
    subst (λ (t : FutureTricks). Tells ask rule lines t) (sym e) tells
