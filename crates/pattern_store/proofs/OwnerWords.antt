-- Words of owners, by suit and place: what `&`, `^` and `!` leave of each owner, and which owners a mask has.
use Rattle.std.proofs.Common.{◌≡◌, ℕ, zero, suc, ◌+◌, ◌-◌, ◌*◌, ◌/◌, ◌%◌, ◌^◌, ◌<◌, ◌≤◌, inl, inr, sym, ap, ◌∙◌, subst, arith}
use Rattle.std.proofs.Math.Nat.{zero-div, div-eq_of_lt, mod-eq_of_lt}
use Rattle.std.proofs.Math.Pow.{mod-mod-pow}
use Rattle.std.proofs.lemmas.Bool.{cases_lt}
use Rattle.std.proofs.lemmas.Nat.{and_comm, and_shr, and_mod, xor_shr, xor_mod, and_mask, and_le_l, and_le_r, and-not, shr-shr, field_of, pow-add, pow_pos, pow_below}
use Rattle.std.proofs.lemmas.Nat.Bits.{same_from_bits_below, ones_shr}
use Rattle.std.specs.Int.{bit_at}
use Rattle.std.specs.Int.Bits.{bit_and, bit_xor, xor_add_and, xor_self, and_block}
use Rattle.pattern_store.specs.Record.{owner_in, owner_at, depth_of, MarksSuit, Marks, SameOwners, KeepsOwners}

-- ---- one owner

owner_and : (a b suit place : ℕ) → owner_at (bit_and a b) suit place ≡ bit_and (owner_at a suit place) (owner_at b suit place)
owner_and a b suit place =
    ap (λ part. owner_in part place) (and_shr a b (16 * suit))
    ∙ ap (λ word. word % 4) (and_shr (a / 2 ^ (16 * suit)) (b / 2 ^ (16 * suit)) (2 * place))
    ∙ and_mod (a / 2 ^ (16 * suit) / 2 ^ (2 * place)) (b / 2 ^ (16 * suit) / 2 ^ (2 * place)) 2

owner_xor : (a b suit place : ℕ) → owner_at (bit_xor a b) suit place ≡ bit_xor (owner_at a suit place) (owner_at b suit place)
owner_xor a b suit place =
    ap (λ part. owner_in part place) (xor_shr a b (16 * suit))
    ∙ ap (λ word. word % 4) (xor_shr (a / 2 ^ (16 * suit)) (b / 2 ^ (16 * suit)) (2 * place))
    ∙ xor_mod (a / 2 ^ (16 * suit) / 2 ^ (2 * place)) (b / 2 ^ (16 * suit) / 2 ^ (2 * place)) 2

owner_zero : (suit place : ℕ) → owner_at 0 suit place ≡ 0
owner_zero suit place =
    ap (λ part. owner_in part place) (zero-div (2 ^ (16 * suit))) ∙ ap (λ word. word % 4) (zero-div (2 ^ (2 * place)))

owner_lt : (word suit place : ℕ) → owner_at word suit place < 4
owner_lt word suit place = omega arith

and_three : (x : ℕ) → x < 4 → bit_and x 3 ≡ x
and_three x lt = and_mask x 2 ∙ mod-eq_of_lt lt

and_zero : (x : ℕ) → bit_and x 0 ≡ 0
and_zero x = omega (arith, and_le_r x 0)

same_of_xor : (a b : ℕ) → bit_xor a b ≡ 0 → a ≡ b
same_of_xor a b none = omega (arith, xor_add_and a b, and_le_l a b, and_le_r a b)

-- ---- a word by its owners

half_of : (x b : ℕ) → b < 2 → x / 2 ^ b % 2 ≡ x % 4 / 2 ^ b % 2
half_of x zero lt = omega arith
half_of x (suc zero) lt = omega arith
half_of x (suc (suc b)) lt = absurd (omega arith)

bit_of_owner : (word i : ℕ) → bit_at word i ≡ owner_at word (i / 16) (i % 16 / 2) / 2 ^ (i % 2) % 2
bit_of_owner word i =
    let suit = 16 * (i / 16) in
    let place = 2 * (i % 16 / 2) in
    let split : i ≡ suit + (place + i % 2) = omega arith in
    ap (bit_at word) split
    ∙ ap (λ x. x % 2) (sym (shr-shr word suit (place + i % 2)) ∙ sym (shr-shr (word / 2 ^ suit) place (i % 2)))
    ∙ half_of (word / 2 ^ suit / 2 ^ place) (i % 2) (omega arith)

-- two words with the same owners are equal
pub same_from_owners : (a b : ℕ) → a < 2 ^ 64 → b < 2 ^ 64 → ((suit place : ℕ) → suit < 4 → place < 8 → owner_at a suit place ≡ owner_at b suit place) → a ≡ b
same_from_owners a b fits other_fits same =
    same_from_bits_below 64 a b fits other_fits
    (λ i lt. bit_of_owner a i ∙ ap (λ owner. owner / 2 ^ (i % 2) % 2) (same (i / 16) (i % 16 / 2) (omega arith) (omega arith)) ∙ sym (bit_of_owner b i))

-- ---- the masks

-- both bits of so many places
pub marks_ones : (first depth count : ℕ) → count ≤ 8 → ((place : ℕ) → place < 8 → first + place < depth → place < count) → ((place : ℕ) → place < 8 → depth ≤ first + place → count ≤ place) →
    MarksSuit first depth (2 ^ (2 * count) - 1)
marks_ones first depth count few above below = record {
  named = λ place lt is_named. three place (above place lt is_named);
  others = λ place lt other. none place (below place lt other);
}
  where
    three : (place : ℕ) → place < count → owner_in (2 ^ (2 * count) - 1) place ≡ 3
    three place lt =
        let rest = 2 * (count - place - 1) in
        let left : 2 * count - 2 * place ≡ rest + 2 = omega arith in
        ap (λ x. x % 4) (ones_shr (2 * count) (2 * place) (omega arith) ∙ ap (λ k. 2 ^ k - 1) left ∙ ap (λ x. x - 1) (pow-add 2 rest 2))
        ∙ omega (arith, pow_pos rest)

    none : (place : ℕ) → count ≤ place → owner_in (2 ^ (2 * count) - 1) place ≡ 0
    none place le = ap (λ x. x % 4) (div-eq_of_lt (below_pow place le))
      where
        below_pow : (place : ℕ) → count ≤ place → 2 ^ (2 * count) - 1 < 2 ^ (2 * place)
        below_pow place le = elim (cases_lt count place) [
          | inl lt ↦ let more : 2 * count < 2 * place = omega arith in omega (arith, pow_below (2 * count) (2 * place) more)
          | inr same ↦ let e : count ≡ place = omega arith in subst (λ k. 2 ^ (2 * count) - 1 < 2 ^ (2 * k)) e (omega (arith, pow_pos (2 * count)))
        ]

-- a suit's part stands at the lower end of a longer word
owner_low : (rest part place : ℕ) → place < 8 → owner_in (rest * 2 ^ 16 + part) place ≡ owner_in part place
owner_low rest part place lt =
    let k = 2 + 2 * place in
    let whole : 16 ≡ 16 - k + k = omega arith in
    let low : (word : ℕ) → word % 2 ^ 16 % 2 ^ k ≡ word % 2 ^ k = λ word. ap (λ j. word % 2 ^ j % 2 ^ k) whole ∙ mod-mod-pow word (16 - k) k in
    let same : (rest * 2 ^ 16 + part) % 2 ^ 16 ≡ part % 2 ^ 16 = omega arith in
    sym (field_of (rest * 2 ^ 16 + part) 2 (2 * place))
    ∙ ap (λ x. x / 2 ^ (2 * place)) (sym (low (rest * 2 ^ 16 + part)) ∙ ap (λ x. x % 2 ^ k) same ∙ low part)
    ∙ field_of part 2 (2 * place)

marks_low : (first depth rest part whole : ℕ) → whole ≡ rest * 2 ^ 16 + part → MarksSuit first depth part → MarksSuit first depth whole
marks_low first depth rest part whole is marks = record {
  named = λ place lt is_named. ap (λ word. owner_in word place) is ∙ owner_low rest part place lt ∙ marks.named place lt is_named;
  others = λ place lt other. ap (λ word. owner_in word place) is ∙ owner_low rest part place lt ∙ marks.others place lt other;
}

-- the masks of four suits, side by side in a word
pub marks_word : (first depths one two three four : ℕ) → one < 2 ^ 16 → two < 2 ^ 16 → three < 2 ^ 16 → four < 2 ^ 16 →
    MarksSuit first (depth_of depths 0) one → MarksSuit first (depth_of depths 1) two → MarksSuit first (depth_of depths 2) three → MarksSuit first (depth_of depths 3) four →
    Marks first depths (one + two * 2 ^ 16 + three * 2 ^ 32 + four * 2 ^ 48)
marks_word first depths one two three four p q r s m1 m2 m3 m4 zero lt = marks_low first (depth_of depths 0) (two + three * 2 ^ 16 + four * 2 ^ 32) one _ (omega arith) m1
marks_word first depths one two three four p q r s m1 m2 m3 m4 (suc zero) lt = marks_low first (depth_of depths 1) (three + four * 2 ^ 16) two _ (omega arith) m2
marks_word first depths one two three four p q r s m1 m2 m3 m4 (suc (suc zero)) lt = marks_low first (depth_of depths 2) four three _ (omega arith) m3
marks_word first depths one two three four p q r s m1 m2 m3 m4 (suc (suc (suc zero))) lt = marks_low first (depth_of depths 3) 0 four _ (omega arith) m4
marks_word first depths one two three four p q r s m1 m2 m3 m4 (suc (suc (suc (suc n)))) lt = absurd (omega arith)

-- ---- what a mask leaves

module _ (first depths mask : ℕ) (marks : Marks first depths mask) where
  -- of two words, that the owners named are the same
  pub same_from_mask : (one other : ℕ) → bit_and (bit_xor one other) mask ≡ 0 → SameOwners first depths one other
  same_from_mask one other none suit place s p is_named =
      let three : owner_at mask suit place ≡ 3 = (marks suit s).named place p is_named in
      let differ = owner_at (bit_xor one other) suit place in
      same_of_xor (owner_at one suit place) (owner_at other suit place)
      (sym (owner_xor one other suit place) ∙ sym (and_three differ (owner_lt (bit_xor one other) suit place)) ∙ ap (bit_and differ) (sym three)
      ∙ sym (owner_and (bit_xor one other) mask suit place) ∙ ap (λ word. owner_at word suit place) none ∙ owner_zero suit place)

  pub mask_from_same : mask < 2 ^ 64 → (one other : ℕ) → SameOwners first depths one other → bit_and (bit_xor one other) mask ≡ 0
  mask_from_same fits one other same =
      same_from_owners (bit_and (bit_xor one other) mask) 0 (omega (arith, and_le_r (bit_xor one other) mask)) (omega arith)
      (λ suit place s p. owner_and (bit_xor one other) mask suit place ∙ left suit place s p ∙ sym (owner_zero suit place))
    where
      left : (suit place : ℕ) → suit < 4 → place < 8 → bit_and (owner_at (bit_xor one other) suit place) (owner_at mask suit place) ≡ 0
      left suit place s p = elim (cases_lt (first + place) (depth_of depths suit)) [
        | inl lt ↦
            ap (λ x. bit_and x (owner_at mask suit place))
            (owner_xor one other suit place ∙ ap (λ x. bit_xor x (owner_at other suit place)) (same suit place s p lt) ∙ xor_self (owner_at other suit place))
        | inr le ↦ ap (bit_and (owner_at (bit_xor one other) suit place)) ((marks suit s).others place p le) ∙ and_zero (owner_at (bit_xor one other) suit place)
      ]

  -- of a word, the owners that are named
  pub keeps_masked : (owners : ℕ) → KeepsOwners first depths owners (bit_and owners mask)
  keeps_masked owners = record {
    named = λ suit place s p lt.
        owner_and owners mask suit place ∙ ap (bit_and (owner_at owners suit place)) ((marks suit s).named place p lt)
        ∙ and_three (owner_at owners suit place) (owner_lt owners suit place);
    others = λ suit place s p le.
        owner_and owners mask suit place ∙ ap (bit_and (owner_at owners suit place)) ((marks suit s).others place p le)
        ∙ and_zero (owner_at owners suit place);
  }

  -- of owners that are known, that those named are
  pub all_from_mask : (known : ℕ) → bit_and mask known ≡ mask → (suit place : ℕ) → suit < 4 → place < 8 → first + place < depth_of depths suit → owner_at known suit place ≡ 3
  all_from_mask known same suit place s p lt =
      let three : owner_at mask suit place ≡ 3 = (marks suit s).named place p lt in
      let owner = owner_at known suit place in
      let both : bit_and 3 owner ≡ 3 =
      ap (λ x. bit_and x owner) (sym three) ∙ sym (owner_and mask known suit place) ∙ ap (λ word. owner_at word suit place) same ∙ three in
      omega (arith, owner_lt known suit place, and_le_r 3 owner, both)

  pub mask_from_all : mask < 2 ^ 64 → (known : ℕ) → ((suit place : ℕ) → suit < 4 → place < 8 → first + place < depth_of depths suit → owner_at known suit place ≡ 3) → bit_and mask known ≡ mask
  mask_from_all fits known all =
      same_from_owners (bit_and mask known) mask (omega (arith, and_le_l mask known)) fits (λ suit place s p. owner_and mask known suit place ∙ kept suit place s p)
    where
      kept : (suit place : ℕ) → suit < 4 → place < 8 → bit_and (owner_at mask suit place) (owner_at known suit place) ≡ owner_at mask suit place
      kept suit place s p = elim (cases_lt (first + place) (depth_of depths suit)) [
        | inl lt ↦
            ap (bit_and (owner_at mask suit place)) (all suit place s p lt) ∙ and_three (owner_at mask suit place) (owner_lt mask suit place)
        | inr le ↦
            let none : owner_at mask suit place ≡ 0 = (marks suit s).others place p le in
            ap (λ x. bit_and x (owner_at known suit place)) none ∙ sym none
      ]

  -- where it has no bit none is named
  pub none_named : mask ≡ 0 → (suit : ℕ) → suit < 4 → depth_of depths suit ≤ first
  none_named empty suit s = elim (cases_lt first (depth_of depths suit)) [
    | inl lt ↦
        let three : owner_at mask suit 0 ≡ 3 = (marks suit s).named 0 (omega arith) (omega arith) in
        absurd (omega (arith, three, ap (λ word. owner_at word suit 0) empty, owner_zero suit 0))
    | inr le ↦ le
  ]

-- the places that one set of depths names another names too
abbrev pub NamesWithin : ℕ → ℕ → ℕ → Type 0
NamesWithin first depths others = (suit place : ℕ) → suit < 4 → place < 8 → first + place < depth_of depths suit → first + place < depth_of others suit

module _ (first depths others mask other : ℕ) (marks : Marks first depths mask) (other_marks : Marks first others other) (fits : mask < 2 ^ 64) (other_fits : other < 2 ^ 64) where
  pub within_from_masks : bit_and mask (2 ^ 64 - 1 - other) ≡ 0 → NamesWithin first depths others
  within_from_masks none suit place s p lt = elim (cases_lt (first + place) (depth_of others suit)) [
    | inl named ↦ named
    | inr le ↦
        let three : owner_at mask suit place ≡ 3 = (marks suit s).named place p lt in
        let zero_there : owner_at other suit place ≡ 0 = (other_marks suit s).others place p le in
        let all : bit_and other mask ≡ mask = omega (arith, none, and_comm mask (2 ^ 64 - 1 - other), and-not 64 other mask other_fits fits) in
        let both : bit_and (owner_at other suit place) (owner_at mask suit place) ≡ owner_at mask suit place =
        sym (owner_and other mask suit place) ∙ ap (λ word. owner_at word suit place) all in
        absurd (omega (arith, three, zero_there, both, and_le_l (owner_at other suit place) (owner_at mask suit place)))
  ]

  pub masks_from_within : NamesWithin first depths others → bit_and mask (2 ^ 64 - 1 - other) ≡ 0
  masks_from_within within =
      let all : bit_and other mask ≡ mask = same_from_owners (bit_and other mask) mask (omega (arith, and_le_r other mask)) fits
      (λ suit place s p. owner_and other mask suit place ∙ kept suit place s p) in
      omega (arith, all, and_comm mask (2 ^ 64 - 1 - other), and-not 64 other mask other_fits fits)
    where
      kept : (suit place : ℕ) → suit < 4 → place < 8 → bit_and (owner_at other suit place) (owner_at mask suit place) ≡ owner_at mask suit place
      kept suit place s p = elim (cases_lt (first + place) (depth_of depths suit)) [
        | inl lt ↦
            ap (λ x. bit_and x (owner_at mask suit place)) ((other_marks suit s).named place p (within suit place s p lt))
            ∙ ap (bit_and 3) ((marks suit s).named place p lt) ∙ sym ((marks suit s).named place p lt)
        | inr le ↦
            ap (bit_and (owner_at other suit place)) ((marks suit s).others place p le) ∙ and_zero (owner_at other suit place) ∙ sym ((marks suit s).others place p le)
      ]

-- ---- how many are named

-- `& 0x0f0f` keeps two of four depths
pub pairs_of : (depths : ℕ) → bit_and depths 3855 ≡ depths / 256 % 16 * 256 + depths % 16
pairs_of depths =
    let split : depths ≡ depths / 256 * 2 ^ 8 + depths % 256 = omega arith in
    ap (λ d. bit_and d 3855) split
    ∙ omega (arith, and_block 8 (depths / 256) 15 (depths % 256) 15 (omega arith) (omega arith), and_mask (depths / 256) 4, and_mask (depths % 256) 4)

-- ---- no owner after the eighth

-- where a mask has the highest bit of the lowest four, and a number has no bit of the mask, those four make less than eight
low_depth : (x rest : ℕ) → bit_and x (rest * 16 + 8) ≡ 0 → (x % 16 < 8) × (bit_and (x / 16) rest ≡ 0)
low_depth x rest none =
    let split : x ≡ x / 16 * 2 ^ 4 + x % 16 = omega arith in
    let both : bit_and x (rest * 16 + 8) ≡ bit_and (x / 16) rest * 2 ^ 4 + bit_and (x % 16) 8 =
    ap (λ y. bit_and y (rest * 16 + 8)) split ∙ and_block 4 (x / 16) rest (x % 16) 8 (omega arith) (omega arith) in
    let halves : x % 16 ≡ x % 16 / 8 * 2 ^ 3 + x % 8 = omega arith in
    let bit : bit_and (x % 16) 8 ≡ bit_and (x % 16 / 8) 1 * 2 ^ 3 + bit_and (x % 8) 0 =
    ap (λ y. bit_and y 8) halves ∙ and_block 3 (x % 16 / 8) 1 (x % 8) 0 (omega arith) (omega arith) in
    (omega (arith, none, both, bit, and_mask (x % 16 / 8) 1, and_zero (x % 8)), omega (arith, none, both))

pub shallow : (depths : ℕ) → bit_and depths 34952 ≡ 0 → (suit : ℕ) → suit < 4 → depth_of depths suit < 8
shallow depths none zero lt = omega (arith, (low_depth depths 2184 none).0)
shallow depths none (suc zero) lt = omega (arith, (low_depth (depths / 16) 136 (low_depth depths 2184 none).1).0)
shallow depths none (suc (suc zero)) lt =
    omega (arith, (low_depth (depths / 16 / 16) 8 (low_depth (depths / 16) 136 (low_depth depths 2184 none).1).1).0)
shallow depths none (suc (suc (suc zero))) lt =
    omega (arith, (low_depth (depths / 16 / 16 / 16) 0 (low_depth (depths / 16 / 16) 8 (low_depth (depths / 16) 136 (low_depth depths 2184 none).1).1).1).0)
shallow depths none (suc (suc (suc (suc suit)))) lt = absurd (omega (arith, lt))

pub marks_none : (depths : ℕ) → ((suit : ℕ) → suit < 4 → depth_of depths suit ≤ 8) → Marks 8 depths 0
marks_none depths few suit s = record {
  named = λ place lt named. absurd (omega (arith, named, few suit s));
  others = λ place lt other. owner_zero suit place;
}
