-- What `&`, `|` and `!` make of sets of cards.
use Rattle.std.proofs.Common.{◌≡◌, ◌↔◌, ◌⊎◌, ℕ, ◌-◌, ◌*◌, ◌^◌, ◌<◌, inl, inr, ◌∙◌, ap, subst, arith}
use Rattle.std.specs.Int.{bit_at, trailing_zeros, w64}
use Rattle.std.specs.Int.RustNames.{bit_or}
use Rattle.std.specs.Int.Bits.{bit_and}
use Rattle.std.proofs.lemmas.Bool.{cases_lt, cases_eq}
use Rattle.std.proofs.lemmas.Nat.{and_comm, and_le_l}
use Rattle.std.proofs.lemmas.Nat.Bits.{bit_at-trailing_zeros, bit_at_and, bit_at_or, bit_at_not, bit_at-lt, bit_at-zero, bit_at-pow_same, bit_at-pow_other, and_pow}
use Rattle.partition_search.specs.Cards.{HasCard, ShareCard, AreWithout}
use Rattle.partition_search.proofs.CardLaws.{bit_small}

pub both_have : (one other bit : ℕ) → HasCard (bit_and one other) bit ↔ (HasCard one bit × HasCard other bit)
both_have one other bit =
    let both = bit_at_and one other bit in (
      λ has. (omega (arith, has, both, bit_at-lt one bit), omega (arith, has, both, bit_at-lt other bit)),
      λ each. omega (arith, each.0, each.1, both),
    )

pub shared : (one other : ℕ) → one < 2 ^ 64 → (bit_and one other ≡ 0 → ⊥) → ShareCard one other
shared one other fits some =
    let first = bit_at-trailing_zeros w64 (bit_and one other) (elim (cases_lt 0 (bit_and one other)) [
      | inl more ↦ more
      | inr none ↦ absurd (some (omega (arith, none)))
    ]) (omega (arith, and_le_l one other)) in
    let here = (both_have one other (trailing_zeros w64 (bit_and one other))).0 first.1 in
    (trailing_zeros w64 (bit_and one other), here.0, here.1)

pub none_shared : (one other : ℕ) → bit_and one other ≡ 0 → ShareCard one other → ⊥
none_shared one other none share =
    omega (arith, (both_have one other share.0).1 (share.1, share.2), ap (λ n. bit_at n share.0) none, bit_at-zero share.0)

-- a card of a set that has no other
pub only_card : (bit other : ℕ) → HasCard (2 ^ bit) other → other ≡ bit
only_card bit other has = elim (cases_eq other bit) [
  | inl same ↦ same
  | inr apart ↦ absurd (omega (arith, has, bit_at-pow_other bit other apart))
]

pub share_card : (card bit set : ℕ) → card ≡ 2 ^ bit → ShareCard card set ↔ HasCard set bit
share_card card bit set is = (
  λ share. subst (HasCard set) (only_card bit share.0 (subst (λ n. HasCard n share.0) is share.1)) share.2,
  λ has. (bit, ap (λ n. bit_at n bit) is ∙ bit_at-pow_same bit, has),
)

pub and_card : (card bit set : ℕ) → card ≡ 2 ^ bit → bit_and card set ≡ bit_at set bit * 2 ^ bit
and_card card bit set is = ap (λ n. bit_and n set) is ∙ and_comm (2 ^ bit) set ∙ and_pow set bit

-- `cards & !gone`
pub without : (cards gone : ℕ) → cards < 2 ^ 64 → gone < 2 ^ 64 → AreWithout cards gone (bit_and cards (2 ^ 64 - 1 - gone))
without cards gone fits gone_fits bit = elim (cases_lt bit 64) [
  | inl within ↦
      let both = bit_at_and cards (2 ^ 64 - 1 - gone) bit in
      let other = bit_at_not w64 gone bit gone_fits within in (
        λ has. (omega (arith, has, both, bit_at-lt cards bit), λ had. omega (arith, has, had, both, other)),
        λ kept. elim (cases_lt (bit_at gone bit) 1) [
          | inl absent ↦ omega (arith, kept.0, absent, both, other)
          | inr present ↦ absurd (kept.1 (omega (arith, present, bit_at-lt gone bit)))
        ],
      )
  | inr over ↦ (
    λ has. absurd (omega (arith, over, bit_small (bit_and cards (2 ^ 64 - 1 - gone)) bit (omega (arith, fits, and_le_l cards (2 ^ 64 - 1 - gone))) has)),
    λ kept. absurd (omega (arith, over, bit_small cards bit fits kept.0)),
  )
]

-- `set | 1 << place`
pub with_place : (set place one : ℕ) → one ≡ 2 ^ place → (other : ℕ) → HasCard (bit_or set one) other ↔ (HasCard set other ⊎ (other ≡ place))
with_place set place one is other =
    let either = bit_at_or set one other in
    let there : bit_at one other ≡ bit_at (2 ^ place) other = ap (λ n. bit_at n other) is in (
      λ has. elim (cases_eq other place) [
        | inl same ↦ inr same
        | inr apart ↦ inl (omega (arith, has, either, there, bit_at-pow_other place other apart))
      ],
      λ cases. elim cases [
        | inl had ↦ omega (arith, had, either, bit_at-lt one other)
        | inr same ↦
            let one_there : bit_at one other ≡ 1 = there ∙ ap (bit_at (2 ^ place)) same ∙ bit_at-pow_same place in
            omega (arith, one_there, either, bit_at-lt set other)
      ],
    )
