-- A suit that covers another, by the bits in which their words are alike.
use Rattle.std.proofs.Common.{◌≡◌, ℕ, ◌+◌, ◌-◌, ◌*◌, ◌/◌, ◌%◌, ◌^◌, ◌<◌, ◌≤◌, max, IsTrue, nat_eq, ◌↔◌, inl, inr, sym, ◌∙◌, ap, arith}
use Rattle.std.specs.Prelude.{bit_and, bit_or, bit_xor}
use Rattle.std.specs.Int.{bit_at}
use Rattle.std.proofs.lemmas.Bool.{cases_eq, cases_lt, eqb-true, eq-eqb}
use Rattle.std.proofs.lemmas.Nat.{one_shl, pow-add, pow_pos, shr-shr}
use Rattle.std.proofs.lemmas.Nat.Bits.{bit_at_and, bit_at_or, bit_at_xor, bit_at-lt, bit_at-zero, bit_at_ones, bit_at_ones_above, bit_at_mask_below, bit_at_mask_inside, bit_at_mask_above, bit_at_cat_low, same_from_bits, same_from_bits_below}
use Rattle.std.proofs.Math.Nat.{mod-lt, mod-eq_of_lt, pow-le-pow_right}
use Rattle.patterns.specs.Shapes.{CoversSuit}
use Rattle.patterns.specs.Words.{suit_in, owner_count, IsSuitWord}
use Rattle.patterns.proofs.SuitWords.{covers_by_words}

-- two words are alike in the bits of a mask
abbrev AreAlike : ℕ → ℕ → ℕ → Type 0
AreAlike a b mask = (i : ℕ) → bit_at mask i ≡ 1 → bit_at a i ≡ bit_at b i

alike_told : (a b mask : ℕ) → (bit_and (bit_xor a b) mask ≡ 0) ↔ AreAlike a b mask
alike_told a b mask = (
  (λ none i one. let zero : bit_at (bit_and (bit_xor a b) mask) i ≡ 0 = ap (λ n. bit_at n i) none ∙ bit_at-zero i in
      omega (arith, zero, one, bit_at_and (bit_xor a b) mask i, bit_at_xor a b i, bit_at-lt a i, bit_at-lt b i)),
  λ alike. same_from_bits (bit_and (bit_xor a b) mask) 0 (each alike),
)
  where
    each : AreAlike a b mask → (i : ℕ) → bit_at (bit_and (bit_xor a b) mask) i ≡ bit_at 0 i
    each alike i = elim (cases_eq (bit_at mask i) 1) [
      | inl one ↦ omega (arith, bit_at-zero i, bit_at_and (bit_xor a b) mask i, bit_at_xor a b i, alike i one, one, bit_at-lt a i)
      | inr other ↦ omega (arith, bit_at-zero i, bit_at_and (bit_xor a b) mask i, other, bit_at-lt mask i)
    ]

-- a bit of some bits of a word
part_bit : (n from width i : ℕ) → i < width → bit_at (n / 2 ^ from % 2 ^ width) i ≡ bit_at n (from + i)
part_bit n from width i inside =
    let m = n / 2 ^ from in
    let split : m ≡ m / 2 ^ width * 2 ^ width + m % 2 ^ width = omega arith in
    sym (bit_at_cat_low (m / 2 ^ width) width (m % 2 ^ width) i inside) ∙ (ap (λ k. bit_at k i) (sym split) ∙ ap (λ k. k % 2) (shr-shr n from i))

part_told : (a b from width : ℕ) → (a / 2 ^ from % 2 ^ width ≡ b / 2 ^ from % 2 ^ width) ↔ ((i : ℕ) → i < width → bit_at a (from + i) ≡ bit_at b (from + i))
part_told a b from width = (
  (λ same i inside. sym (part_bit a from width i inside) ∙ (ap (λ n. bit_at n i) same ∙ part_bit b from width i inside)),
  λ alike. same_from_bits_below width (a / 2 ^ from % 2 ^ width) (b / 2 ^ from % 2 ^ width) (mod-lt (a / 2 ^ from) (pow_pos width)) (mod-lt (b / 2 ^ from) (pow_pos width))
      (λ i inside. part_bit a from width i inside ∙ (alike i inside ∙ sym (part_bit b from width i inside))),
)

-- the mask of the lengths and of some owners
abbrev pub mask_of : ℕ → ℕ
mask_of k = bit_or 65535 ((1 * 2 ^ (2 * k) % 2 ^ 64 - 1) * 2 ^ 20 % 2 ^ 64)

owners_mask : (k : ℕ) → k ≤ 13 → (1 * 2 ^ (2 * k) % 2 ^ 64 - 1) * 2 ^ 20 % 2 ^ 64 ≡ 2 ^ (20 + 2 * k) - 2 ^ 20
owners_mask k few =
    let two : 0 < 2 = omega arith in
    let few' : 2 * k ≤ 26 = omega (arith, few) in
    let small : 2 ^ (2 * k) ≤ 2 ^ 26 = pow-le-pow_right two few' in
    omega (arith, small, pow_pos (2 * k), one_shl (2 * k) 64 (omega arith), pow-add 2 20 (2 * k))

-- which bits the mask has
mask_bit : (k i : ℕ) → k ≤ 13 → bit_at (mask_of k) i ≡ max (bit_at 65535 i) (bit_at (2 ^ (20 + 2 * k) - 2 ^ 20) i)
mask_bit k i few = bit_at_or 65535 ((1 * 2 ^ (2 * k) % 2 ^ 64 - 1) * 2 ^ 20 % 2 ^ 64) i ∙ ap (λ m. max (bit_at 65535 i) (bit_at m i)) (owners_mask k few)

-- a bit of the mask is one of the lengths or of these owners
in_mask : (a b k i : ℕ) → k ≤ 13 → ((j : ℕ) → j < 16 → bit_at a (0 + j) ≡ bit_at b (0 + j)) → ((j : ℕ) → j < 2 * k → bit_at a (20 + j) ≡ bit_at b (20 + j)) → bit_at (mask_of k) i ≡ 1 → bit_at a i ≡ bit_at b i
in_mask a b k i few lens owners one = elim (cases_lt i 16) [
  | inl low ↦ (let at : 0 + i ≡ i = omega arith in sym (ap (bit_at a) at) ∙ (lens i low ∙ ap (bit_at b) at))
  | inr high ↦ elim (cases_lt i 20) [
    | inl between ↦ absurd (omega (arith, one, mask_bit k i few, bit_at_ones_above 16 i high, bit_at_mask_below 20 (20 + 2 * k) i between))
    | inr from ↦ elim (cases_lt i (20 + 2 * k)) [
      | inl inside ↦ (
          let at : 20 + (i - 20) ≡ i = omega (arith, from) in
          sym (ap (bit_at a) at) ∙ (owners (i - 20) (omega (arith, from, inside)) ∙ ap (bit_at b) at)
          )
      | inr above ↦ absurd (omega (arith, one, mask_bit k i few, bit_at_ones_above 16 i high, bit_at_mask_above 20 (20 + 2 * k) i above))
    ]
  ]
]

-- the words are alike under the mask where the lengths are, and the owners as far as the first word has any
pub masked_told : (word other k : ℕ) → IsSuitWord word → k ≡ owner_count word →
    (bit_and (bit_xor word other) (mask_of k) ≡ 0) ↔ ((word % 2 ^ 16 ≡ other % 2 ^ 16) × (word / 2 ^ 20 ≡ other / 2 ^ 20 % 2 ^ (2 * owner_count word)))
masked_told word other k is count = (
  (λ none. let alike = (alike_told word other (mask_of k)).0 none in (
    sym (whole word) ∙ ((part_told word other 0 16).1 (λ i inside. alike (0 + i) (omega (arith, mask_bit k (0 + i) few, bit_at_ones 16 (0 + i) (omega (arith, inside)), bit_at-lt (2 ^ (20 + 2 * k) - 2 ^ 20) (0 + i)))) ∙ whole other),
    sym own ∙ ((part_told word other 20 (2 * k)).1 (λ i inside. alike (20 + i) (omega (arith, mask_bit k (20 + i) few, bit_at_mask_inside 20 (20 + 2 * k) (20 + i) (omega arith) (omega (arith, inside)), bit_at-lt 65535 (20 + i)))) ∙ theirs),
  )),
  λ same. (alike_told word other (mask_of k)).1 (λ i. in_mask word other k i few
      ((part_told word other 0 16).0 (whole word ∙ (same.0 ∙ sym (whole other))))
      ((part_told word other 20 (2 * k)).0 (own ∙ (same.1 ∙ sym theirs)))),
)
  where
    few : k ≤ 13
    few = omega (arith, count, is.within)

    whole : (n : ℕ) → n / 2 ^ 0 % 2 ^ 16 ≡ n % 2 ^ 16
    whole n = omega arith

    own : word / 2 ^ 20 % 2 ^ (2 * k) ≡ word / 2 ^ 20
    own = ap (λ n. word / 2 ^ 20 % 2 ^ (2 * n)) count ∙ mod-eq_of_lt is.blank

    theirs : other / 2 ^ 20 % 2 ^ (2 * k) ≡ other / 2 ^ 20 % 2 ^ (2 * owner_count word)
    theirs = ap (λ n. other / 2 ^ 20 % 2 ^ (2 * n)) count

-- the test of it
pub masked_test : (word other k : ℕ) → IsSuitWord word → k ≡ owner_count word →
    IsTrue (nat_eq (bit_and (bit_xor word other) (mask_of k)) 0) ↔ ((word % 2 ^ 16 ≡ other % 2 ^ 16) × (word / 2 ^ 20 ≡ other / 2 ^ 20 % 2 ^ (2 * owner_count word)))
masked_test word other k is count =
    let told = masked_told word other k is count in
    ((λ h. told.0 (eqb-true _ _ h)), λ same. eq-eqb _ _ (told.1 same))

pub covers_by_mask : (word other : ℕ) → IsSuitWord word → CoversSuit (suit_in word) (suit_in other) ↔
    (((word % 2 ^ 16 ≡ other % 2 ^ 16) × (word / 2 ^ 20 ≡ other / 2 ^ 20 % 2 ^ (2 * owner_count word))) × (owner_count word ≤ owner_count other))
covers_by_mask word other is =
    let told = covers_by_words word other is in
    ((λ covers. let h = told.0 covers in ((h.0.0, h.1), h.0.1)), λ h. told.1 ((h.0.0, h.1), h.0.1))
