-- The cards of a trick in one word.
use Rattle.std.proofs.Common.{◌≡◌, ℕ, zero, suc, ◌+◌, ◌*◌, ◌/◌, ◌%◌, ◌^◌, ◌<◌, [], ◌∷◌, ◌++◌, length, refl, ◌∙◌, ap, arith}
use Rattle.std.proofs.lemmas.Nat.{pow-add}
use Rattle.pattern_step.specs.declared.pat_cards.PatCard.{PatCard}
use Rattle.checker.specs.TrickWords.{card_at, cards_in}

-- what is above sixteen bits does not matter
card_below : (word high : ℕ) → card_at (word + 65536 * high) ≡ card_at word
card_below word high =
    let kind : (word + 65536 * high) / 2 ^ 10 % 2 ≡ word / 2 ^ 10 % 2 = omega arith in
    let at : (word + 65536 * high) / 2 ^ 8 % 4 ≡ word / 2 ^ 8 % 4 = omega arith in
    let low : (word + 65536 * high) % 2 ^ 8 ≡ word % 2 ^ 8 = omega arith in
    rw (kind, at, low) refl

-- ---- one card more
shift : (count : ℕ) → 2 ^ (16 * suc count) ≡ 65536 * 2 ^ (16 * count)
shift count = ap (λ n. 2 ^ n) (let e : 16 * suc count ≡ 16 + 16 * count = omega arith in e) ∙ pow-add 2 16 (16 * count)

pub one_more : (count word code : ℕ) → word < 2 ^ (16 * count) → cards_in (count + 1) (word + code * 2 ^ (16 * count)) ≡ cards_in count word ++ card_at code ∷ []
one_more zero word code small =
    let e : word + code * 2 ^ (16 * 0) ≡ code = omega (arith, small) in
    ap (λ n. card_at n ∷ []) e
one_more (suc count) word code small =
    let high = code * 2 ^ (16 * count) in
    let product : code * 2 ^ (16 * suc count) ≡ 65536 * high = ap (λ n. code * n) (shift count) ∙ grind arith in
    let whole : word + code * 2 ^ (16 * suc count) ≡ word + 65536 * high = ap (λ n. word + n) product in
    let rest : (word + 65536 * high) / 2 ^ 16 ≡ word / 2 ^ 16 + high = omega arith in
    let fits : word / 2 ^ 16 < 2 ^ (16 * count) = omega (arith, shift count, small) in
    let counted : suc count + 1 ≡ suc (count + 1) = omega arith in
    ap (λ n. cards_in (suc count + 1) n) whole
    ∙ (ap (λ k. cards_in k (word + 65536 * high)) counted
    ∙ (ap (λ card. card ∷ cards_in (count + 1) ((word + 65536 * high) / 2 ^ 16)) (card_below word high)
    ∙ ap (λ cards. card_at word ∷ cards) (ap (λ n. cards_in (count + 1) n) rest ∙ one_more count (word / 2 ^ 16) code fits)))

pub length-cards_in : (count word : ℕ) → length (cards_in count word) ≡ count
length-cards_in zero word = refl
length-cards_in (suc count) word = ap suc (length-cards_in count (word / 2 ^ 16))

-- ---- the word with a card more, as the code computes it
pub record Added (count word code : ℕ) : Type 0 where
  pub exact : code * 2 ^ (16 * count) % 18446744073709551616 ≡ code * 2 ^ (16 * count)
  pub below : word + code * 2 ^ (16 * count) < 2 ^ (16 * (count + 1))
  pub fits : word + code * 2 ^ (16 * count) < 18446744073709551616

pub added : (count word code : ℕ) → count < 4 → code < 65536 → word < 2 ^ (16 * count) → Added count word code
added zero word code few low small = record { exact = omega (arith, low); below = omega (arith, low, small); fits = omega (arith, low, small) }
added (suc zero) word code few low small = record { exact = omega (arith, low); below = omega (arith, low, small); fits = omega (arith, low, small) }
added (suc (suc zero)) word code few low small = record { exact = omega (arith, low); below = omega (arith, low, small); fits = omega (arith, low, small) }
added (suc (suc (suc zero))) word code few low small = record { exact = omega (arith, low); below = omega (arith, low, small); fits = omega (arith, low, small) }
added (suc (suc (suc (suc n)))) word code few low small = absurd (omega (arith, few))

pub four_cards : (word second third fourth : ℕ) (one two three four : PatCard) → one ≡ card_at word → two ≡ card_at second → three ≡ card_at third → four ≡ card_at fourth →
    second ≡ word / 2 ^ 16 → third ≡ word / 2 ^ 16 / 2 ^ 16 → fourth ≡ word / 2 ^ 16 / 2 ^ 16 / 2 ^ 16 → one ∷ two ∷ three ∷ four ∷ [] ≡ cards_in 4 word
four_cards word second third fourth one two three four a b c d e f g = rw (a, b, c, d, e, f, g) refl
