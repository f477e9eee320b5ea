-- Signed numbers.
use Rattle.std.proofs.Common.{◌≡◌, ◌⊎◌, inl, inr, arith}
use Rattle.std.proofs.lemmas.Int.{ints, clamps, by_lt_z}
use Rattle.std.specs.Prelude.{ℤ, neg_ℤ, ◌≤ℤ◌}
use Rattle.std.specs.Int.{int_max}

pub cases_int_eq : (x y : ℤ) → (x ≡ y) ⊎ (x ≡ y → ⊥)
cases_int_eq x y =
    by_lt_z x y (λ less. inr (λ e. absurd (omega (arith, ints))))
    (λ no_less. by_lt_z y x (λ less. inr (λ e. absurd (omega (arith, ints)))) (λ no_more. inl (omega (arith, ints))))

pub neg-swap : (x y : ℤ) → x ≤ℤ neg_ℤ y → y ≤ℤ neg_ℤ x
neg-swap x y h = omega (arith, ints)

pub le-both : (x y : ℤ) → x ≤ℤ y → y ≤ℤ x → x ≡ y
le-both x y h k = omega (arith, ints)

pub max-first : (x y : ℤ) → y ≤ℤ x → int_max x y ≡ x
max-first x y h = omega (arith, ints, clamps)
