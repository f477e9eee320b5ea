-- The elements of a list with their places, one by one.
use Rattle.std.proofs.Common.{◌≡◌, ℕ, ◌+◌, ◌<◌, List, length, get_or, sym, ◌∙◌, ap, arith}
use Rattle.std.specs.List.{enumerate_from}
use Rattle.std.proofs.lemmas.List.FromFn.{get_or-enumerate_from, length-enumerate_from}

module _ {X : Type 0} (all : List X) (place : ℕ) where
  pub place_within : place < length all → place < length (enumerate_from 0 all)
  place_within within = omega (arith, within, length-enumerate_from 0 all)

  pub one_there : (d : X) → place < length all → get_or (enumerate_from 0 all) place (0, d) ≡ (place, get_or all place d)
  one_there d within =
      let same : 0 + place ≡ place = omega arith in
      get_or-enumerate_from 0 all place (0, d) within ∙ ap (λ (n : ℕ). (n, get_or all place d)) same

  pub one_at : (one : X) → place < length all → one ≡ get_or all place one →
      get_or (enumerate_from 0 all) place (0, one) ≡ (place, one)
  one_at one within is = one_there one within ∙ ap (λ (x : X). (place, x)) (sym is)
