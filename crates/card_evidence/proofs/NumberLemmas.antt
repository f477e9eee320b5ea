-- The spelling of a number from 10 to 13.
use Rattle.std.proofs.Common.{◌≡◌, ℕ, ◌+◌, ◌-◌, ◌/◌, ◌%◌, ◌≤◌, List, [], ◌∷◌, ◌++◌, ◌∙◌, ap, arith}
use Rattle.std.specs.Fmt.{decimal}
use Rattle.std.proofs.lemmas.Fmt.{decimal_digit, decimal_step}

pub two_digits : (n : ℕ) → 10 ≤ n → n ≤ 13 → decimal n ≡ 49 ∷ (48 + (n - 10)) ∷ []
two_digits n high few =
    let tens : n / 10 ≡ 1 = omega arith in
    let ones : 48 + n % 10 ≡ 48 + (n - 10) = omega arith in
    decimal_step n high (omega arith)
    ∙ (ap (λ k. decimal k ++ ((48 + n % 10) ∷ [])) tens
    ∙ (ap (λ (t : List ℕ). t ++ ((48 + n % 10) ∷ [])) (decimal_digit 1 (omega arith)) ∙ ap (λ (b : ℕ). 49 ∷ b ∷ []) ones))
