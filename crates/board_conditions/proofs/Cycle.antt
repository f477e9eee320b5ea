-- Numbers of boards, digit by digit.
use Rattle.std.proofs.Common.{◌≡◌, ℕ, zero, suc, ◌+◌, ◌*◌, ◌-◌, ◌%◌, ◌<◌, ◌≤◌, List, [], ◌∷◌, length, get_or, slice_index_or, take, Some, refl, sym, ◌∙◌, ap, arith}
use Rattle.std.specs.List.{slice_get}
use Rattle.std.specs.Str.Parse.{digits_value}
use Rattle.std.proofs.lemmas.Int.Digits.{digits_value_more}
use Rattle.std.proofs.lemmas.Str.{digit_value_digit}
use Rattle.board_conditions.specs.Numbers.{dealers, vulnerabilities, in_cycle, in_turn}

one_less : (n : ℕ) → suc n - 1 ≡ n
one_less n = omega arith

cycle_is : (number : ℕ) → 1 ≤ number → in_cycle number ≡ (number - 1) % 16 + 1
cycle_is zero h = absurd (omega (arith, h))
cycle_is (suc before) h = ap (λ n. n % 16 + 1) (sym (one_less before))

-- a digit more
cycle_more : (number digit : ℕ) → in_cycle (10 * in_cycle number + digit) ≡ in_cycle (number * 10 + digit)
cycle_more zero digit = refl
cycle_more (suc before) digit =
    let same : (10 * (before % 16 + 1) + digit - 1) % 16 ≡ (suc before * 10 + digit - 1) % 16 = omega arith in
    cycle_is (10 * (before % 16 + 1) + digit) (omega arith)
    ∙ (ap (λ n. n + 1) same ∙ sym (cycle_is (suc before * 10 + digit) (omega arith)))

pub digit_more : (name : List ℕ) (place number : ℕ) → place < length name → 48 ≤ get_or name place 0 → get_or name place 0 ≤ 57 → number ≡ in_cycle (digits_value 10 (take place name)) → in_cycle (10 * number + (get_or name place 0 - 48)) ≡ in_cycle (digits_value 10 (take (place + 1) name))
digit_more name place number within low high is =
    let byte = get_or name place 0 in
    let before = digits_value 10 (take place name) in
    let value = digit_value_digit byte (low, high) in
    ap (λ n. in_cycle (10 * n + (byte - 48))) is
    ∙ (cycle_more before (byte - 48)
    ∙ ap in_cycle (omega (arith, value, digits_value_more 10 name place within)))

-- ---- lists that begin again at their end
turn_is : {X : Type 0} (list : List X) (number : ℕ) → 1 ≤ number → in_turn list number ≡ slice_get list ((number - 1) % length list)
turn_is list zero h = absurd (omega (arith, h))
turn_is list (suc before) h = ap (λ n. slice_get list (n % length list)) (sym (one_less before))

some_at : {X : Type 0} (list : List X) (place : ℕ) (other : X) → place < length list → slice_get list place ≡ Some (slice_index_or list place other)
some_at [] place other h = absurd (omega (arith, h))
some_at (first ∷ list) zero other h = refl
some_at (first ∷ list) (suc place) other h = some_at list place other (omega (arith, h))

pub turn_at : {X : Type 0} (list : List X) (number places : ℕ) (other : X) → 1 ≤ number → places ≡ (number - 1) % length list → places < length list → Some (slice_index_or list places other) ≡ in_turn list number
turn_at list number places other some is within =
    sym (turn_is list number some ∙ (ap (slice_get list) (sym is) ∙ some_at list places other within))

-- a board of the first 16 stands for those that are as it is
dealers_again : (number : ℕ) → in_turn dealers (in_cycle number) ≡ in_turn dealers number
dealers_again zero = refl
dealers_again (suc before) =
    let same : (before % 16 + 1 - 1) % 4 ≡ before % 4 = omega arith in
    turn_is dealers (before % 16 + 1) (omega arith) ∙ ap (slice_get dealers) same

vulnerabilities_again : (number : ℕ) → in_turn vulnerabilities (in_cycle number) ≡ in_turn vulnerabilities number
vulnerabilities_again zero = refl
vulnerabilities_again (suc before) =
    let same : (before % 16 + 1 - 1) % 16 ≡ before % 16 = omega arith in
    turn_is vulnerabilities (before % 16 + 1) (omega arith) ∙ ap (slice_get vulnerabilities) same

pub dealer_of : (number some : ℕ) → number ≡ in_cycle some → in_turn dealers number ≡ in_turn dealers some
dealer_of number some e = ap (in_turn dealers) e ∙ dealers_again some

pub vulnerability_of : (number some : ℕ) → number ≡ in_cycle some → in_turn vulnerabilities number ≡ in_turn vulnerabilities some
vulnerability_of number some e = ap (in_turn vulnerabilities) e ∙ vulnerabilities_again some
