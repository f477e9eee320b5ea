-- Signed numbers.
use Rattle.std.proofs.Common.{◌≡◌, ◌⊎◌, inl, inr, arith, ⊎_elim}
use Rattle.std.proofs.lemmas.Int.{ints, clamps, by_lt_z}
use Rattle.std.specs.Prelude.{ℤ, pos, neg_ℤ, ◌≤ℤ◌, ◌<ℤ◌}
use Rattle.std.specs.Int.{int_min, int_max}

pub cases_int_lt : (x y : ℤ) → (x <ℤ y) ⊎ (y ≤ℤ x)
cases_int_lt x y = by_lt_z x y inl inr

pub min-left : (x y : ℤ) → int_min x y ≤ℤ x
min-left x y = omega (arith, ints, clamps)

pub min-right : (x y : ℤ) → int_min x y ≤ℤ y
min-right x y = omega (arith, ints, clamps)

pub max-left : (x y : ℤ) → x ≤ℤ int_max x y
max-left x y = omega (arith, ints, clamps)

pub max-right : (x y : ℤ) → y ≤ℤ int_max x y
max-right x y = omega (arith, ints, clamps)

pub max-least : (x y z : ℤ) → x ≤ℤ z → y ≤ℤ z → int_max x y ≤ℤ z
max-least x y z h k = omega (arith, ints, clamps)

pub max-one : (x y : ℤ) → (int_max x y ≡ x) ⊎ (int_max x y ≡ y)
max-one x y =
    ⊎_elim (λ less. inr (omega (arith, ints, clamps))) (λ no_less. inl (omega (arith, ints, clamps))) (cases_int_lt x y)

pub le-trans : (x y z : ℤ) → x ≤ℤ y → y ≤ℤ z → x ≤ℤ z
le-trans x y z h k = omega (arith, ints)

pub le-refl : (x y : ℤ) → x ≡ y → x ≤ℤ y
le-refl x y e = omega (arith, ints)

pub neg-le : (x y : ℤ) → x ≤ℤ y → neg_ℤ y ≤ℤ neg_ℤ x
neg-le x y h = omega (arith, ints)

-- a side that may accept what the others gain, x, or bid for y, gains the greater of the two for itself
pub neg-min-accept : (x y : ℤ) → y ≤ℤ neg_ℤ x → neg_ℤ (int_min x (neg_ℤ y)) ≤ℤ neg_ℤ x
neg-min-accept x y h = omega (arith, ints, clamps)

pub neg-min-bid : (x y : ℤ) → neg_ℤ x <ℤ y → neg_ℤ (int_min x (neg_ℤ y)) ≤ℤ y
neg-min-bid x y h = omega (arith, ints, clamps)

pub le-from_lt : (x y : ℤ) → x <ℤ y → x ≤ℤ y
le-from_lt x y h = omega (arith, ints)

-- The dealer's side has the greater of x, its best bid, and what its pass leaves it, where the others' best bid is y.
pub hold-passed : (x y : ℤ) → y ≤ℤ pos 0 → neg_ℤ (int_max x (int_min (pos 0) (neg_ℤ y))) ≤ℤ pos 0
hold-passed x y h = omega (arith, ints, clamps)

pub hold-bid : (x y : ℤ) → pos 0 <ℤ y → neg_ℤ (int_max x (int_min (pos 0) (neg_ℤ y))) ≤ℤ y
hold-bid x y h = omega (arith, ints, clamps)

pub neg-neg : (x : ℤ) → neg_ℤ (neg_ℤ x) ≡ x
neg-neg x = omega (arith, ints)
