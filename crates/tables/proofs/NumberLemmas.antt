-- Numbers below a hundred, right in two places.
use Rattle.std.proofs.Common.{◌≡◌, ℕ, ◌+◌, ◌/◌, ◌%◌, ◌<◌, ◌≤◌, [], ◌∷◌, take, drop, sym, ◌∙◌, ap, arith}
use Rattle.std.specs.Fmt.{decimal}
use Rattle.std.proofs.lemmas.Fmt.{decimal_digit}
use Rattle.cards.proofs.NumberLemmas.{decimal_two}
use Rattle.tables.specs.TablesText.{right_in_two}

pub two_places_small : (n : ℕ) → n < 10 → 32 ∷ (48 + n % 10) ∷ [] ≡ right_in_two (decimal n)
two_places_small n h =
    let same : n % 10 ≡ n = omega arith in
    ap (λ d. 32 ∷ (48 + d) ∷ []) same ∙ sym (ap right_in_two (decimal_digit n h))

pub two_places_great : (n : ℕ) → 10 ≤ n → n < 100 → (48 + n / 10) ∷ (48 + n % 10) ∷ [] ≡ right_in_two (decimal n)
two_places_great n low high = sym (ap right_in_two (decimal_two n low high))

pub right_in_two-great : (n : ℕ) → 10 ≤ n → n < 100 → right_in_two (decimal n) ≡ decimal n
right_in_two-great n low high = sym (two_places_great n low high) ∙ sym (decimal_two n low high)

-- the last place of a number below ten
pub last_place : (n : ℕ) → n < 10 → take 1 (drop 1 (right_in_two (decimal n))) ≡ decimal n
last_place n h = ap (λ digits. take 1 (drop 1 (right_in_two digits))) (decimal_digit n h) ∙ sym (decimal_digit n h)
