-- Sums over lists of which one part changes.
use Rattle.std.proofs.Common.{◌≡◌, ℕ, zero, suc, ◌+◌, List, [], ◌∷◌, sum_by, set, refl, sym, ap, arith}
use Rattle.std.proofs.lemmas.List.Sums.{sum_by-cons}
use mathlib.Core.Option.{some, some-injective, some-ne-none}
use lib.ListN.{get_elem?}

module _ {A : Type 0} (f : A → ℕ) where
  -- the sum after one of the terms changed
  pub sum_set : (l : List A) (i : ℕ) (v w : A) → get_elem? l i ≡ some v → sum_by f (set l i w) + f v ≡ sum_by f l + f w
  sum_set [] i v w e = absurd (some-ne-none v (sym e))
  sum_set (x ∷ xs) zero v w e = let same : f x ≡ f v = ap f (some-injective x v e) in omega (arith, sum_by-cons f w xs, sum_by-cons f x xs)
  sum_set (x ∷ xs) (suc i) v w e = let k = sum_set xs i v w e in omega (arith, sum_by-cons f x (set xs i w), sum_by-cons f x xs)

  -- a term is at most the sum
  pub one_of : (l : List A) (i : ℕ) (v : A) → get_elem? l i ≡ some v → (rest : ℕ) × (sum_by f l ≡ f v + rest)
  one_of [] i v e = absurd (some-ne-none v (sym e))
  one_of (x ∷ xs) zero v e = let same : f x ≡ f v = ap f (some-injective x v e) in (sum_by f xs, omega (arith, sum_by-cons f x xs))
  one_of (x ∷ xs) (suc i) v e = let k = one_of xs i v e in (f x + k.0, omega (arith, sum_by-cons f x xs, k.1))

  -- the sum of equal terms
  pub sum_same : (g : A → ℕ) → ((x : A) → f x ≡ g x) → (l : List A) → sum_by f l ≡ sum_by g l
  sum_same g same [] = refl
  sum_same g same (x ∷ xs) = let k = sum_same g same xs in omega (arith, sum_by-cons f x xs, sum_by-cons g x xs, same x)
