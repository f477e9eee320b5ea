-- The numbers of chairs that are made in turn.
use Rattle.std.proofs.Common.{◌≡◌, ℕ, ◌+◌, cond, eqb, ltb, List, [], ◌∷◌, ◌++◌, length, count_by, arith}
use Rattle.std.proofs.lemmas.Bool.Decides.{nat_tests}
use Rattle.std.proofs.lemmas.List.{length_push}
use Rattle.std.proofs.lemmas.List.Sums.{sum_by_push}
use Rattle.lease_desk.specs.Desks.{AreAll}

-- so many numbers, each below that once, and no other
pub record AreUpTo (count : ℕ) (numbers : List ℕ) : Type 0 where
  pub count_is : length numbers ≡ count
  pub once : (number : ℕ) → count_by (eqb number) numbers ≡ cond (ltb number count) 1 0

pub one_more : (count : ℕ) (numbers : List ℕ) → AreUpTo count numbers → AreUpTo (count + 1) (numbers ++ count ∷ [])
one_more count numbers up = record {
  count_is = omega (arith, length_push numbers count, up.count_is);
  once = λ number.
      let pushed = sum_by_push (λ (x : ℕ). cond (eqb number x) 1 0) numbers count in
      let before = up.once number in
      grind (arith, nat_tests);
}

pub are_all : (count : ℕ) (numbers : List ℕ) → AreUpTo count numbers → AreAll count numbers
are_all count numbers up = record {
  count_is = up.count_is;
  once = λ number below. let once = up.once number in grind (arith, nat_tests);
}
