-- The lowest and the highest card of a set, and the cards below one.
use Rattle.std.proofs.Common.{◌≡◌, ℕ, zero, suc, ◌+◌, ◌-◌, ◌*◌, ◌/◌, ◌%◌, ◌^◌, ◌<◌, ◌≤◌, inl, inr, sym, ◌∙◌, ap, subst, arith}
use Rattle.std.specs.Int.{bit_at, trailing_zeros, leading_zeros, w64}
use Rattle.std.specs.Int.RustNames.{bit_or}
use lib.Count.{trailing_of_zero}
use Rattle.std.specs.Int.Bits.{bit_and, and_self, and_block}
use Rattle.std.proofs.lemmas.Bool.{cases_lt, cases_eq}
use Rattle.std.proofs.lemmas.Nat.{and_comm, and_le_l, and_le_r, and-not, and_mask, or_lt, le_or_l, pow_pos, pow-add, pow_below, shr_split, mod-pow-add, le-div, div_below, shl_whole, leading_top}
use Rattle.std.proofs.lemmas.Nat.Bits.{bit_at-trailing_zeros, bit_at-suc, bit_at_lowest, bit_at_above, bit_at_or, bit_at-lt, bit_at-zero, bit_at-pow_same, bit_at-pow_other, bit_at_ones, bit_at_ones_above, bit_at_cat_low, bit_at_cat_high, and_pow, and_high}
use Rattle.partition_search.specs.Cards.{HasCard, LowestIs, HighestIs, IsLowestOf, IsHighestOf, LacksLowest, AreBelow, AreOfSuit}

-- ---- the lowest card

none_below : (p n : ℕ) → ((i : ℕ) → i < p → bit_at n i ≡ 0) → n % 2 ^ p ≡ 0
none_below zero n none = omega arith
none_below (suc p) n none =
    let e : suc p ≡ p + 1 = omega arith in
    let whole : n % 2 ^ suc p ≡ n / 2 % 2 ^ p * 2 + n % 2 = ap (λ m. n % 2 ^ m) e ∙ mod-pow-add n p 1 in
    let low : n % 2 ≡ 0 = sym (bit_at_lowest n) ∙ none 0 (omega arith) in
    let high = none_below p (n / 2) (λ i less. sym (bit_at-suc n i) ∙ none (suc i) (omega arith)) in
    omega (arith, whole, low, high)

-- a number without its lowest bit
and_pred : (q t : ℕ) → bit_and ((2 * q + 1) * 2 ^ t) ((2 * q + 1) * 2 ^ t - 1) ≡ 2 * q * 2 ^ t
and_pred q t =
    let some = pow_pos t in
    let whole : (2 * q + 1) * 2 ^ t ≡ (2 * q + 1) * 2 ^ t + 0 = omega arith in
    let split : (2 * q + 1) * 2 ^ t ≡ 2 * q * 2 ^ t + 2 ^ t = grind arith in
    let less : (2 * q + 1) * 2 ^ t - 1 ≡ 2 * q * 2 ^ t + (2 ^ t - 1) = omega (arith, split) in
    let e : 2 * q + 1 ≡ q * 2 ^ 1 + 1 = omega arith in
    let e' : 2 * q ≡ q * 2 ^ 1 + 0 = omega arith in
    let high : bit_and (2 * q + 1) (2 * q) ≡ 2 * q =
    ap (λ m. bit_and m (2 * q)) e ∙ (ap (bit_and (q * 2 ^ 1 + 1)) e' ∙ (and_block 1 q q 1 0 (omega arith) (omega arith) ∙ omega (arith, and_self q, and_le_r 1 0))) in
    let none : bit_and 0 (2 ^ t - 1) ≡ 0 = omega (arith, and_le_l 0 (2 ^ t - 1)) in
    ap (bit_and ((2 * q + 1) * 2 ^ t)) less
    ∙ (ap (λ m. bit_and m (2 * q * 2 ^ t + (2 ^ t - 1))) whole
    ∙ (and_block t (2 * q + 1) (2 * q) 0 (2 ^ t - 1) some (omega arith) ∙ (ap (λ m. m * 2 ^ t + bit_and 0 (2 ^ t - 1)) high ∙ omega (arith, none))))

-- by the place of its lowest bit
cleared_at : (n t : ℕ) → n % 2 ^ t ≡ 0 → bit_at n t ≡ 1 → bit_and n (n - 1) + 2 ^ t ≡ n
cleared_at n t none one =
    let q = n / 2 ^ t / 2 in
    let odd : n / 2 ^ t ≡ 2 * q + 1 = omega (arith, one) in
    let whole : n ≡ (2 * q + 1) * 2 ^ t = sym (shr_split n t) ∙ (ap (λ m. n / 2 ^ t * 2 ^ t + m) none ∙ (omega arith ∙ ap (λ m. m * 2 ^ t) odd)) in
    let split : (2 * q + 1) * 2 ^ t ≡ 2 * q * 2 ^ t + 2 ^ t = grind arith in
    let cleared : bit_and n (n - 1) ≡ 2 * q * 2 ^ t = ap (λ m. bit_and m (m - 1)) whole ∙ and_pred q t in
    omega (arith, whole, split, cleared)

pub lowest_is : (cards : ℕ) → 0 < cards → cards < 2 ^ 64 → LowestIs cards (trailing_zeros w64 cards)
lowest_is cards some fits =
    let first = bit_at-trailing_zeros w64 cards some fits in record {
      in_set = first.1;
      lowest = λ other has. elim (cases_lt other (trailing_zeros w64 cards)) [
        | inl less ↦ absurd (omega (arith, has, first.2 other less))
        | inr le ↦ le
      ];
    }

without_lowest : (cards : ℕ) → 0 < cards → cards < 2 ^ 64 → bit_and cards (cards - 1) + 2 ^ trailing_zeros w64 cards ≡ cards
without_lowest cards some fits =
    let first = bit_at-trailing_zeros w64 cards some fits in
    cleared_at cards (trailing_zeros w64 cards) (none_below (trailing_zeros w64 cards) cards first.2) first.1

lowest_alone : (cards : ℕ) → 0 < cards → cards < 2 ^ 64 → bit_and cards (2 ^ 64 - cards) ≡ 2 ^ trailing_zeros w64 cards
lowest_alone cards some fits =
    let negative : 2 ^ 64 - cards ≡ 2 ^ 64 - 1 - (cards - 1) = omega arith in
    omega (arith, ap (bit_and cards) negative, without_lowest cards some fits, and-not 64 (cards - 1) cards (omega arith) fits, and_comm cards (2 ^ 64 - 1 - (cards - 1)), and_comm cards (cards - 1))

-- `cards & cards.wrapping_sub(1)`
pub lacks_lowest : (cards less : ℕ) → cards < 2 ^ 64 → (0 < cards → less ≡ cards - 1) → LacksLowest cards (bit_and cards less)
lacks_lowest cards less fits is = elim (cases_lt 0 cards) [
  | inl some ↦
      inr (trailing_zeros w64 cards, lowest_is cards some fits, ap (λ n. bit_and cards n + 2 ^ trailing_zeros w64 cards) (is some) ∙ without_lowest cards some fits)
  | inr none ↦ inl (omega (arith, none), omega (arith, none, and_le_l cards less))
]

-- `cards & 0.wrapping_sub(cards)`
pub lowest_of : (cards negative : ℕ) → cards < 2 ^ 64 → (0 < cards → negative ≡ 2 ^ 64 - cards) → IsLowestOf cards (bit_and cards negative)
lowest_of cards negative fits is = elim (cases_lt 0 cards) [
  | inl some ↦ inr (trailing_zeros w64 cards, lowest_is cards some fits, ap (bit_and cards) (is some) ∙ lowest_alone cards some fits)
  | inr none ↦ inl (omega (arith, none), omega (arith, none, and_le_l cards negative))
]

-- `trailing_zeros() & 63`
pub lowest_at : (cards : ℕ) → cards < 2 ^ 64 → 0 < cards → LowestIs cards (bit_and (trailing_zeros w64 cards) 63)
lowest_at cards fits some =
    let few : trailing_zeros w64 cards < 64 = (bit_at-trailing_zeros w64 cards some fits).0 in
    let same : trailing_zeros w64 cards ≡ bit_and (trailing_zeros w64 cards) 63 = omega (arith, few, and_mask (trailing_zeros w64 cards) 6) in
    subst (LowestIs cards) same (lowest_is cards some fits)

pub no_lowest : (cards : ℕ) → cards ≡ 0 → bit_and (trailing_zeros w64 cards) 63 ≡ 0
no_lowest cards none = ap (λ n. bit_and (trailing_zeros w64 n) 63) none ∙ ap (λ n. bit_and n 63) (trailing_of_zero 64) ∙ and_mask 64 6

-- ---- the highest card

highest_is : (cards bit : ℕ) → 2 ^ bit ≤ cards → cards < 2 ^ suc bit → HighestIs cards bit
highest_is cards bit above below =
    let twice : 2 ^ suc bit ≡ 2 ^ bit * 2 = let e : suc bit ≡ bit + 1 = omega arith in ap (λ n. 2 ^ n) e ∙ pow-add 2 bit 1 in
    let some : 1 ≤ cards / 2 ^ bit = le-div 1 cards (2 ^ bit) (pow_pos bit) (omega (arith, above)) in
    let few : cards / 2 ^ bit < 2 = div_below cards (2 ^ bit) 2 (pow_pos bit) (omega (arith, below, twice)) in
    record {
      in_set = let one : cards / 2 ^ bit ≡ 1 = omega (arith, some, few) in ap (λ n. n % 2) one;
      highest = λ other has. elim (cases_lt bit other) [
        | inl more ↦ absurd (omega (arith, has, bit_at_above cards (suc bit) other below (omega arith)))
        | inr le ↦ le
      ];
    }

-- a set and the set with its lowest bit have the same highest card
highest_of_both : (cards bit : ℕ) → 0 < cards → HighestIs (bit_or cards 1) bit → bit_or cards 1 < 2 ^ suc bit → HighestIs cards bit
highest_of_both cards bit some both small = record {
  in_set = elim (cases_lt 0 bit) [
    | inl above ↦
        let other : bit_at 1 bit ≡ 0 = bit_at-pow_other 0 bit (λ e. omega (arith, e, above)) in
        omega (arith, both.in_set, bit_at_or cards 1 bit, other)
    | inr lowest ↦
        let zero_is : bit ≡ 0 = omega (arith, lowest) in
        let two : 2 ^ suc bit ≡ 2 = ap (λ n. 2 ^ suc n) zero_is in
        let one : cards ≡ 1 = omega (arith, some, small, two, le_or_l cards 1) in
        ap (λ n. bit_at n bit) one ∙ ap (bit_at 1) zero_is
  ];
  highest = λ other has. both.highest other (omega (arith, has, bit_at_or cards 1 other, bit_at-lt (bit_or cards 1) other));
}

-- `63 - (cards | 1).leading_zeros() & 63`
pub highest_at : (cards : ℕ) → cards < 2 ^ 64 → (number : ℕ) → (leading_zeros w64 (bit_or cards 1) < 64 → number ≡ 63 - leading_zeros w64 (bit_or cards 1)) → 0 < cards → HighestIs cards (bit_and number 63)
highest_at cards fits number is some =
    let top = leading_top 64 (bit_or cards 1) (omega (arith, some, le_or_l cards 1)) (or_lt 64 cards 1 fits (omega arith)) in
    let same : top.0 ≡ bit_and number 63 = omega (arith, is (omega (arith, top.1)), top.1, and_mask number 6) in
    subst (HighestIs cards) same (highest_of_both cards top.0 some (highest_is (bit_or cards 1) top.0 top.2 top.3) top.3)

pub no_highest : (cards number : ℕ) → (leading_zeros w64 (bit_or cards 1) < 64 → number ≡ 63 - leading_zeros w64 (bit_or cards 1)) → cards ≡ 0 → bit_and number 63 ≡ 0
no_highest cards number is none =
    let one : bit_or cards 1 ≡ 1 = ap (λ n. bit_or n 1) none in
    let top = leading_top 64 (bit_or cards 1) (omega (arith, one)) (omega (arith, one)) in
    let lowest : top.0 ≡ 0 = elim (cases_lt 0 top.0) [
      | inl above ↦ absurd (omega (arith, pow_below 0 top.0 above, top.2, one))
      | inr le ↦ omega (arith, le)
    ] in
    omega (arith, is (omega (arith, top.1)), top.1, lowest, and_mask number 6)

-- a bit of a word is one of 64
pub bit_small : (cards bit : ℕ) → cards < 2 ^ 64 → HasCard cards bit → bit < 64
bit_small cards bit fits has = elim (cases_lt bit 64) [
  | inl less ↦ less
  | inr over ↦ absurd (omega (arith, has, bit_at_above cards 64 bit fits over))
]

pub card_small : (card bit : ℕ) → card < 2 ^ 64 → card ≡ 2 ^ bit → bit < 64
card_small card bit fits is = bit_small card bit fits (ap (λ n. bit_at n bit) is ∙ bit_at-pow_same bit)

-- `cards & 1 << bit`
pub highest_of : (cards bit alone : ℕ) → cards < 2 ^ 64 → (0 < cards → HighestIs cards bit) → (bit < 64 → alone ≡ 2 ^ bit) → IsHighestOf cards (bit_and cards alone)
highest_of cards bit alone fits highest is = elim (cases_lt 0 cards) [
  | inl some ↦
      let top = highest some in
      inr (bit, top, ap (bit_and cards) (is (bit_small cards bit fits top.in_set)) ∙ and_pow cards bit ∙ ap (λ n. n * 2 ^ bit) top.in_set ∙ omega arith)
  | inr none ↦ inl (omega (arith, none), omega (arith, none, and_le_l cards alone))
]

-- ---- the cards below one

are_below : (bit : ℕ) → AreBelow bit (2 ^ bit - 1)
are_below bit other = (
  λ has. elim (cases_lt other bit) [
    | inl less ↦ less
    | inr le ↦ absurd (omega (arith, has, bit_at_ones_above bit other le))
  ],
  λ less. bit_at_ones bit other less,
)

-- `card.wrapping_sub(1)`
pub below_card : (card less : ℕ) → (0 < card → less ≡ card - 1) → (bit : ℕ) → card ≡ 2 ^ bit → AreBelow bit less
below_card card less is bit same =
    let ones : 2 ^ bit - 1 ≡ less = omega (arith, same, pow_pos bit, is (omega (arith, same, pow_pos bit))) in subst (AreBelow bit) ones (are_below bit)

-- ---- the suit of a card

-- the lowest card of one card is that card
lowest_of_card : (card bit : ℕ) → card < 2 ^ 64 → card ≡ 2 ^ bit → trailing_zeros w64 card ≡ bit
lowest_of_card card bit fits is =
    let lowest = lowest_is card (omega (arith, is, pow_pos bit)) fits in
    elim (cases_eq (trailing_zeros w64 card) bit) [
      | inl same ↦ same
      | inr other ↦ absurd (omega (arith, lowest.in_set, ap (λ n. bit_at n (trailing_zeros w64 card)) is, bit_at-pow_other bit (trailing_zeros w64 card) other))
    ]

-- `trailing_zeros() & 48`
pub suit_start : (card bit : ℕ) → card < 2 ^ 64 → card ≡ 2 ^ bit → bit_and (trailing_zeros w64 card) 48 ≡ 16 * (bit / 16)
suit_start card bit fits is =
    ap (λ n. bit_and n 48) (lowest_of_card card bit fits is) ∙ and_high bit 2 4 ∙ omega (arith, card_small card bit fits is)

-- `0xffff << start`
pub of_suit : (card bit start bits : ℕ) → card < 2 ^ 64 → card ≡ 2 ^ bit → start ≡ 16 * (bit / 16) → bits ≡ 65535 * 2 ^ (start % 64) % 2 ^ 64 → AreOfSuit (bit / 16) bits
of_suit card bit start bits fits is from shifted =
    let few = card_small card bit fits is in
    let within : start % 64 ≡ start = omega (arith, from, few) in
    let whole : bits ≡ 65535 * 2 ^ start + 0 =
    shifted ∙ ap (λ n. 65535 * 2 ^ n % 2 ^ 64) within ∙ shl_whole 65535 16 start 64 (omega arith) (omega (arith, from, few)) ∙ omega arith in
    λ other. elim (cases_lt other start) [
      | inl low ↦
          let none : bit_at bits other ≡ 0 = ap (λ n. bit_at n other) whole ∙ bit_at_cat_low 65535 start 0 other low ∙ bit_at-zero other in
          (λ has. absurd (omega (arith, has, none)), λ same. absurd (omega (arith, same, low, from)))
      | inr from_start ↦
          let there : bit_at bits other ≡ bit_at 65535 (other - start) =
          ap (λ n. bit_at n other) whole ∙ bit_at_cat_high 65535 start 0 other (pow_pos start) from_start in
          elim (cases_lt (other - start) 16) [
            | inl inside ↦ (λ has. omega (arith, inside, from_start, from), λ same. there ∙ bit_at_ones 16 (other - start) inside)
            | inr over ↦
                let none : bit_at bits other ≡ 0 = there ∙ bit_at_ones_above 16 (other - start) over in
                (λ has. absurd (omega (arith, has, none)), λ same. absurd (omega (arith, same, over, from)))
          ]
    ]
