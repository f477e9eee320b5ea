-- What the word of `may_be_served` says of the owners that two records name.
use Rattle.std.proofs.Common.{◌≡◌, ℕ, ◌-◌, ◌^◌, ◌<◌, ◌∙◌, inl, inr, ap, subst, arith, Bool, Decides, eqb, ◌+◌, ◌||◌}
use Rattle.std.proofs.lemmas.Bool.{cases_lt}
use Rattle.std.proofs.lemmas.Bool.Decides.{Decides-eqb, Decides-like, Decides-or}
use Rattle.std.proofs.lemmas.Nat.{and_le_r}
use Rattle.std.proofs.lemmas.Nat.Bits.{bit_at_and, bit_at_or, bit_at_xor, bit_at_not, bit_at-lt, bit_at-zero, bit_at_above, same_from_bits_below}
use Rattle.std.specs.Int.{bit_at, w64}
use Rattle.std.specs.Int.RustNames.{bit_or}
use Rattle.std.specs.Int.Bits.{bit_and, bit_xor}
use Rattle.pattern_store.specs.declared.record.Record.{Record}
use Rattle.pattern_store.specs.Record.{NamesNoMoreNear}

module _ (one other : Record) (fits : one.mask < 2 ^ 64) (other_fits : other.mask < 2 ^ 64) where
  -- the bits that keep one from naming no more: another's that is not the same, or is not named
  abbrev against : ℕ
  against = bit_or (bit_xor other.near one.near) (2 ^ 64 - 1 - other.mask)

  names_at : (bit : ℕ) → bit < 64 → bit_at (bit_and against one.mask) bit ≡ 0 → bit_at one.mask bit ≡ 1 → (bit_at other.mask bit ≡ 1) × (bit_at one.near bit ≡ bit_at other.near bit)
  names_at bit within none named =
      let both = bit_at_and against one.mask bit in
      let either = bit_at_or (bit_xor other.near one.near) (2 ^ 64 - 1 - other.mask) bit in
      let other_is = bit_at_xor other.near one.near bit in
      let missing = bit_at_not w64 other.mask bit other_fits within in
      let low : (n : ℕ) → bit_at n bit < 2 = λ n. bit_at-lt n bit in
      (omega (arith, none, named, both, either, missing, low other.mask), omega (arith, none, named, both, either, other_is, low other.near, low one.near))

  names_near : bit_and against one.mask ≡ 0 → NamesNoMoreNear one other
  names_near none bit named = elim (cases_lt bit 64) [
    | inl within ↦ names_at bit within (ap (λ n. bit_at n bit) none ∙ bit_at-zero bit) named
    | inr over ↦ absurd (omega (arith, named, bit_at_above one.mask 64 bit fits over))
  ]

  none_at : NamesNoMoreNear one other → (bit : ℕ) → bit < 64 → bit_at (bit_and against one.mask) bit ≡ bit_at 0 bit
  none_at more bit within =
      let both = bit_at_and against one.mask bit in
      let either = bit_at_or (bit_xor other.near one.near) (2 ^ 64 - 1 - other.mask) bit in
      let other_is = bit_at_xor other.near one.near bit in
      let missing = bit_at_not w64 other.mask bit other_fits within in
      let low : (n : ℕ) → bit_at n bit < 2 = λ n. bit_at-lt n bit in
      elim (cases_lt (bit_at one.mask bit) 1) [
        | inl unnamed ↦ omega (arith, both, unnamed, bit_at-zero bit)
        | inr named ↦
            let is : bit_at one.mask bit ≡ 1 = omega (arith, named, low one.mask) in
            omega (arith, both, either, other_is, missing, (more bit is).0, (more bit is).1, low one.near, low other.near, bit_at-zero bit)
      ]

  near_names : NamesNoMoreNear one other → bit_and against one.mask ≡ 0
  near_names more = same_from_bits_below 64 (bit_and against one.mask) 0 (omega (arith, and_le_r against one.mask)) (omega arith) (none_at more)

  -- whether the one names no more than the other
  pub names_near-Decides : Decides (eqb (bit_and against one.mask) 0) (NamesNoMoreNear one other)
  names_near-Decides = Decides-like _ names_near near_names (Decides-eqb _ 0)

-- whether some place up to this one is such, by those before it and this one
pub some_more : (P : ℕ → Type 0) (before here : Bool) (place : ℕ) → Decides before ((k : ℕ) × (k < place) × P k) → Decides here (P place) → Decides (before || here) ((k : ℕ) × (k < place + 1) × P k)
some_more P before here place some is =
    Decides-like _
    (λ either. elim either [
      | inl early ↦ (early.0, omega (arith, early.1), early.2)
      | inr now ↦ (place, omega arith, now)
    ])
    (λ one. elim (cases_lt one.0 place) [
      | inl early ↦ inl (one.0, early, one.2)
      | inr late ↦ let same : one.0 ≡ place = omega (arith, late, one.1) in inr (subst P same one.2)
    ])
    (Decides-or before here some is)
