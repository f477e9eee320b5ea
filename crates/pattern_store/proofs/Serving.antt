-- What the masks of two records say of the owners that they name.
use Rattle.std.proofs.Common.{◌≡◌, ℕ, ◌+◌, ◌-◌, ◌^◌, ◌<◌, ◌≤◌, inl, inr, Bool, true, false, cond, Decides, sym, ap, ◌∙◌, arith}
use Rattle.std.specs.Prelude.{nat_lt}
use Rattle.std.proofs.lemmas.Bool.{cases_lt}
use Rattle.std.proofs.lemmas.Bool.Decides.{nat_tests, Decides-like}
use Rattle.std.specs.Int.Bits.{bit_and, bit_xor}
use Rattle.pattern_store.specs.declared.record.Owners.{Owners}
use Rattle.pattern_store.specs.declared.record.Record.{Record}
use Rattle.pattern_store.specs.Record.{owner_at, Marks, SameOwners, IsMasked, AgreesNear, AgreesByOwners, AgreesDeep, DiffersDeep, IsKnown, owner_of, NamesNoMore, Serves}
use Rattle.pattern_store.proofs.OwnerWords.{same_from_mask, mask_from_same, all_from_mask, mask_from_all, none_named, NamesWithin, within_from_masks, masks_from_within}

-- ---- the owner in a place, by the two words

owner_near : (r : Record) (suit place : ℕ) → place < 8 → owner_of r suit place ≡ owner_at r.near suit place
owner_near r suit place lt =
    let test : nat_lt place 8 ≡ true = grind (arith, nat_tests) in ap (λ (b : Bool). cond b (owner_at r.near suit place) (owner_at r.deep suit (place - 8))) test

owner_deep : (r : Record) (suit place : ℕ) → owner_of r suit (8 + place) ≡ owner_at r.deep suit place
owner_deep r suit place =
    let test : nat_lt (8 + place) 8 ≡ false = grind (arith, nat_tests) in
    let same : 8 + place - 8 ≡ place = omega arith in
    ap (λ (b : Bool). cond b (owner_at r.near suit (8 + place)) (owner_at r.deep suit (8 + place - 8))) test ∙ ap (owner_at r.deep suit) same

-- ---- what is asked of a record

pub agrees_by_owners : AgreesByOwners
agrees_by_owners r near masked agrees = same_from_mask 0 r.depths r.mask masked r.near near agrees

module _ (r : Record) (mask : ℕ) (marks : Marks 8 r.depths mask) where
  pub agrees_deep : (may_tell : ℕ → Type 0) (deep : ℕ) → may_tell deep → bit_and (bit_xor r.deep deep) mask ≡ 0 → AgreesDeep r may_tell
  agrees_deep may_tell deep told none = inr (deep, told, same_from_mask 8 r.depths mask marks r.deep deep none)

  pub agrees_none : (may_tell : ℕ → Type 0) → mask ≡ 0 → AgreesDeep r may_tell
  agrees_none may_tell empty = inl (none_named 8 r.depths mask marks empty)

  pub differs_deep : mask < 2 ^ 64 → (may_tell : ℕ → Type 0) (deep : ℕ) → may_tell deep → (bit_and (bit_xor r.deep deep) mask ≡ 0 → ⊥) → DiffersDeep r may_tell
  differs_deep fits may_tell deep told some = (deep, told, λ same. some (mask_from_same 8 r.depths mask marks fits r.deep deep same))

  pub known_none : (owners known : Owners) → AgreesNear r owners.near → bit_and r.mask known.near ≡ r.mask → mask ≡ 0 → IsKnown r owners known
  known_none owners known near near_known empty = record {
    near = near;
    near_known = near_known;
    deep = λ suit place s p lt. absurd (omega (arith, lt, none_named 8 r.depths mask marks empty suit s));
    deep_known = λ suit place s p lt. absurd (omega (arith, lt, none_named 8 r.depths mask marks empty suit s));
  }

  pub known_deep : (owners known : Owners) → AgreesNear r owners.near → bit_and r.mask known.near ≡ r.mask → bit_and (bit_xor r.deep owners.deep) mask ≡ 0 → bit_and mask known.deep ≡ mask →
      IsKnown r owners known
  known_deep owners known near near_known none all = record {
    near = near;
    near_known = near_known;
    deep = same_from_mask 8 r.depths mask marks r.deep owners.deep none;
    deep_known = all_from_mask 8 r.depths mask marks known.deep all;
  }

  pub deep_agrees : mask < 2 ^ 64 → (owners known : Owners) → IsKnown r owners known → bit_and (bit_xor r.deep owners.deep) mask ≡ 0
  deep_agrees fits owners known is = mask_from_same 8 r.depths mask marks fits r.deep owners.deep is.deep

  pub deep_is_known : mask < 2 ^ 64 → (owners known : Owners) → IsKnown r owners known → bit_and mask known.deep ≡ mask
  deep_is_known fits owners known is = mask_from_all 8 r.depths mask marks fits known.deep is.deep_known

-- ---- one record and another: of the first eight places, and of those behind

pub no_more_near : (one other : Record) → NamesWithin 0 one.depths other.depths → SameOwners 0 one.depths one.near other.near → NamesNoMore 0 8 one other
no_more_near one other within same = record {
  named = λ suit place s _ p lt. omega (arith, within suit place s p (omega arith));
  same = λ suit place s _ p lt. owner_near one suit place p ∙ same suit place s p (omega arith) ∙ sym (owner_near other suit place p);
}

pub within_near : (one other : Record) → NamesNoMore 0 8 one other → NamesWithin 0 one.depths other.depths
within_near one other more suit place s p lt = omega (arith, more.named suit place s (omega arith) p (omega arith))

pub same_near : (one other : Record) → NamesNoMore 0 8 one other → SameOwners 0 one.depths one.near other.near
same_near one other more suit place s p lt =
    sym (owner_near one suit place p) ∙ more.same suit place s (omega arith) p (omega arith) ∙ owner_near other suit place p

pub no_more_deep : (one other : Record) → NamesWithin 8 one.depths other.depths → SameOwners 8 one.depths one.deep other.deep → NamesNoMore 8 16 one other
no_more_deep one other within same = record {
  named = λ suit place s from to lt. omega (arith, within suit (place - 8) s (omega arith) (omega arith));
  same = λ suit place s from to lt.
      let behind : place ≡ 8 + (place - 8) = omega arith in
      ap (owner_of one suit) behind ∙ owner_deep one suit (place - 8) ∙ same suit (place - 8) s (omega arith) (omega arith)
      ∙ sym (ap (owner_of other suit) behind ∙ owner_deep other suit (place - 8));
}

pub within_deep : (one other : Record) → NamesNoMore 8 16 one other → NamesWithin 8 one.depths other.depths
within_deep one other more suit place s p lt = more.named suit (8 + place) s (omega arith) (omega arith) lt

pub same_deep : (one other : Record) → NamesNoMore 8 16 one other → SameOwners 8 one.depths one.deep other.deep
same_deep one other more suit place s p lt =
    sym (owner_deep one suit place) ∙ more.same suit (8 + place) s (omega arith) (omega arith) lt ∙ owner_deep other suit place

-- both together
pub serves_from : (one other : Record) → other.need ≤ one.need → NamesNoMore 0 8 one other → NamesNoMore 8 16 one other → Serves one other
serves_from one other enough near deep = record {
  enough = enough;
  no_more = record {
    named = λ suit place s from to lt. elim (cases_lt place 8) [
      | inl p ↦ near.named suit place s from p lt
      | inr le ↦ deep.named suit place s le to lt
    ];
    same = λ suit place s from to lt. elim (cases_lt place 8) [
      | inl p ↦ near.same suit place s from p lt
      | inr le ↦ deep.same suit place s le to lt
    ];
  };
}

pub near_of : (one other : Record) → Serves one other → NamesNoMore 0 8 one other
near_of one other serves = record {
  named = λ suit place s from to lt. serves.no_more.named suit place s from (omega arith) lt;
  same = λ suit place s from to lt. serves.no_more.same suit place s from (omega arith) lt;
}

pub deep_of : (one other : Record) → Serves one other → NamesNoMore 8 16 one other
deep_of one other serves = record {
  named = λ suit place s from to lt. serves.no_more.named suit place s (omega arith) to lt;
  same = λ suit place s from to lt. serves.no_more.same suit place s (omega arith) to lt;
}

-- ---- the tests of `serves`, in their order

module _ (one other : Record) (masked : IsMasked one) (other_masked : IsMasked other) (fits : one.mask < 2 ^ 64) (other_fits : other.mask < 2 ^ 64) where
  pub serves_when : other.need ≤ one.need → bit_and one.mask (2 ^ 64 - 1 - other.mask) ≡ 0 → bit_and (bit_xor one.near other.near) one.mask ≡ 0 → (r : Bool) →
      Decides r (NamesNoMore 8 16 one other) → Decides r (Serves one other)
  serves_when enough within same r deep =
      Decides-like r
      (λ more. serves_from one other enough
      (no_more_near one other (within_from_masks 0 one.depths other.depths one.mask other.mask masked other_masked fits other_fits within)
      (same_from_mask 0 one.depths one.mask masked one.near other.near same)) more)
      (deep_of one other) deep

  pub within_of : Serves one other → bit_and one.mask (2 ^ 64 - 1 - other.mask) ≡ 0
  within_of serves = masks_from_within 0 one.depths other.depths one.mask other.mask masked other_masked fits other_fits (within_near one other (near_of one other serves))

pub same_of : (one other : Record) → IsMasked one → one.mask < 2 ^ 64 → Serves one other → bit_and (bit_xor one.near other.near) one.mask ≡ 0
same_of one other masked fits serves = mask_from_same 0 one.depths one.mask masked fits one.near other.near (same_near one other (near_of one other serves))
