-- What one card more does to the words of bits and to the counts of the cards named.
use Rattle.std.proofs.Common.{◌≡◌, ◌≢◌, ℕ, zero, suc, ◌+◌, ◌*◌, ◌/◌, ◌%◌, ◌^◌, ◌<◌, ◌≤◌, Bool, true, false, cond, eqb, List, [], ◌∷◌, ◌++◌, length, get_or, set, refl, sym, ◌∙◌, ap, subst, arith, inl, inr, ◌⊎◌, bit_and, bit_or, max, Contains, w64, get_or-set_same, get_or-set_other, length-set, not, ◌||◌}
use Rattle.std.specs.Prelude.{count_ones}
use Rattle.std.specs.Int.{bit_at}
use Rattle.std.proofs.lemmas.Bool.{cases_eq, eqb-true, eq-eqb, ne_eqb, eqb-false, cases_lt}
use Rattle.std.proofs.lemmas.Grind.{one_shifted}
use Rattle.std.proofs.lemmas.Nat.{pow_below, or_lt, ones_cat, or_block, pow_pos, div-add-mod'}
use Rattle.std.specs.Int.Bits.{or_zero_r}
use lib.Count.{ones}
use Rattle.std.proofs.lemmas.Nat.Bits.{bit_at_set_same, bit_at_set_other, bit_at-lt, and_pow, bit_at_or}
use Rattle.std.proofs.lemmas.List.Elements.{Contains-push, Contains-push_cases, Contains-append_left}
use Rattle.std.proofs.lemmas.List.Sums.{sum_by_push, sum_by-cons}
use Rattle.cards.specs.declared.seats.Seat.{Seat}
use Rattle.cards.specs.declared.seats.Seat.TheVariants.{North, East, South, West}
use Rattle.cards.specs.declared.pack.Card.{Card}
use Rattle.cards.specs.Pack.{card_number}
use Rattle.cards.proofs.PackLaws.{card_number-lt, same_from_numbers}
use Rattle.cards.specs.Seats.{seat_number, is_same_seat}
use Rattle.cards.specs.Hands.{word_of, HasBit}
use Rattle.pbn_deals.specs.declared.dealings.Dealing.{Dealing}
use Rattle.pbn_deals.specs.Dealing.{Holding, held_by, cards_named, times_named, NamesTwice}
use Rattle.pbn_deals.specs.Words.{Represents, IsOnce, TellsTwice, HasCardsAlone}

-- ---- seats
pub seat_number-lt : (s : Seat) → seat_number s < 4
seat_number-lt North = omega arith
seat_number-lt East = omega arith
seat_number-lt South = omega arith
seat_number-lt West = omega arith

pub same_from_seat_numbers : (s t : Seat) → seat_number s ≡ seat_number t → s ≡ t
same_from_seat_numbers North North e = refl
same_from_seat_numbers East East e = refl
same_from_seat_numbers South South e = refl
same_from_seat_numbers West West e = refl
same_from_seat_numbers North East e = absurd (omega arith)
same_from_seat_numbers North South e = absurd (omega arith)
same_from_seat_numbers North West e = absurd (omega arith)
same_from_seat_numbers East North e = absurd (omega arith)
same_from_seat_numbers East South e = absurd (omega arith)
same_from_seat_numbers East West e = absurd (omega arith)
same_from_seat_numbers South North e = absurd (omega arith)
same_from_seat_numbers South East e = absurd (omega arith)
same_from_seat_numbers South West e = absurd (omega arith)
same_from_seat_numbers West North e = absurd (omega arith)
same_from_seat_numbers West East e = absurd (omega arith)
same_from_seat_numbers West South e = absurd (omega arith)

pub is_same_seat-same : (s : Seat) → is_same_seat s s ≡ true
is_same_seat-same North = refl
is_same_seat-same East = refl
is_same_seat-same South = refl
is_same_seat-same West = refl

pub is_same_seat-other : (s t : Seat) → (seat_number s ≡ seat_number t → ⊥) → is_same_seat s t ≡ false
is_same_seat-other North North n = absurd (n refl)
is_same_seat-other East East n = absurd (n refl)
is_same_seat-other South South n = absurd (n refl)
is_same_seat-other West West n = absurd (n refl)
is_same_seat-other North East n = refl
is_same_seat-other North South n = refl
is_same_seat-other North West n = refl
is_same_seat-other East North n = refl
is_same_seat-other East South n = refl
is_same_seat-other East West n = refl
is_same_seat-other South North n = refl
is_same_seat-other South East n = refl
is_same_seat-other South West n = refl
is_same_seat-other West North n = refl
is_same_seat-other West East n = refl
is_same_seat-other West South n = refl

-- ---- counts
one_if : (b : Bool) → b ≡ true → ◌≡◌ {A = ℕ} (cond b 1 0) 1
one_if b e = ap (λ x. cond {A = ℕ} x 1 0) e

none_if : (b : Bool) → b ≡ false → ◌≡◌ {A = ℕ} (cond b 1 0) 0
none_if b e = ap (λ x. cond {A = ℕ} x 1 0) e

times_named-cons : (one : Holding) (others : List Holding) (card : Card) → times_named (one ∷ others) card ≡ cond (eqb (card_number one.card) (card_number card)) 1 0 + times_named others card
times_named-cons one others card = sum_by-cons (λ (x : Holding). cond (eqb (card_number x.card) (card_number card)) 1 0) one others

-- a card that the text names is in some hand
pub named_somewhere : (held : List Holding) (card : Card) → 1 ≤ times_named held card → (seat : Seat) × Contains held (held_by seat card)
named_somewhere [] card h = absurd (omega arith)
named_somewhere (one ∷ others) card h =
    elim (cases_eq (card_number one.card) (card_number card)) [
      | inl e ↦ (one.seat, (0, omega arith, ap (held_by one.seat) (same_from_numbers one.card card e)))
      | inr n ↦
          let no = none_if _ (ne_eqb _ _ n) in
          let found = named_somewhere others card (omega (arith, times_named-cons one others card, no)) in
          (found.0, (suc found.1.0, omega (arith, found.1.1), found.1.2))
    ]

times_named-pos_at : (held : List Holding) (card : Card) (seat : Seat) (k : ℕ) → k < length held → get_or held k (held_by seat card) ≡ held_by seat card → 1 ≤ times_named held card
times_named-pos_at [] card seat k h e = absurd (omega arith)
times_named-pos_at (one ∷ others) card seat zero h e =
    let yes = one_if _ (eq-eqb _ _ (ap (λ (x : Holding). card_number x.card) e)) in
    omega (arith, times_named-cons one others card, yes)
times_named-pos_at (one ∷ others) card seat (suc k) h e =
    omega (arith, times_named-cons one others card, times_named-pos_at others card seat k (omega arith) e)

pub times_named-pos : (held : List Holding) (card : Card) (seat : Seat) → Contains held (held_by seat card) → 1 ≤ times_named held card
times_named-pos held card seat h = times_named-pos_at held card seat h.0 h.1 h.2

pub times_named-push : (held : List Holding) (one : Holding) (card : Card) → times_named (held ++ one ∷ []) card ≡ times_named held card + cond (eqb (card_number one.card) (card_number card)) 1 0
times_named-push held one card = sum_by_push (λ (x : Holding). cond (eqb (card_number x.card) (card_number card)) 1 0) held one

pub cards_named-push : (held : List Holding) (one : Holding) (seat : Seat) → cards_named (held ++ one ∷ []) seat ≡ cards_named held seat + cond (is_same_seat seat one.seat) 1 0
cards_named-push held one seat = sum_by_push (λ (x : Holding). cond (is_same_seat seat x.seat) 1 0) held one

-- ---- bits
-- an even number with its lowest bit set
ones-set_lowest : (m : ℕ) → count_ones (bit_or (m * 2) 1) ≡ count_ones (m * 2) + 1
unfolding ones
ones-set_lowest m =
    let e : m * 2 ≡ m * 2 + 0 = omega arith in
    let or : bit_or (m * 2 + 0) (0 * 2 + 1) ≡ bit_or m 0 * 2 + bit_or 0 1 = or_block 1 m 0 0 1 (omega arith) (omega arith) in
    let or' : bit_or (m * 2) 1 ≡ m * 2 + 1 = ap (λ x. bit_or x 1) e ∙ (or ∙ ap (λ x. x * 2 + 1) (or_zero_r m)) in
    let set : count_ones (m * 2 + 1) ≡ count_ones m + 1 = ones_cat 1 m 1 (omega arith) in
    let clear : count_ones (m * 2 + 0) ≡ count_ones m + 0 = ones_cat 1 m 0 (omega arith) in
    omega (arith, set, ap count_ones or', ap count_ones e, clear)

ones-set_parts : (m low k : ℕ) → low < 2 ^ k → count_ones (bit_or (m * 2 * 2 ^ k + low) (2 ^ k)) ≡ count_ones (m * 2 * 2 ^ k + low) + 1
ones-set_parts m low k h =
    let e : 2 ^ k ≡ 1 * 2 ^ k + 0 = omega arith in
    let or : bit_or (m * 2 * 2 ^ k + low) (1 * 2 ^ k + 0) ≡ bit_or (m * 2) 1 * 2 ^ k + bit_or low 0 = or_block k (m * 2) 1 low 0 h (pow_pos k) in
    let or' : bit_or (m * 2 * 2 ^ k + low) (2 ^ k) ≡ bit_or (m * 2) 1 * 2 ^ k + low = ap (λ x. bit_or (m * 2 * 2 ^ k + low) x) e ∙ (or ∙ ap (λ x. bit_or (m * 2) 1 * 2 ^ k + x) (or_zero_r low)) in
    omega (arith, ap count_ones or', ones_cat k (bit_or (m * 2) 1) low h, ones_cat k (m * 2) low h, ones-set_lowest m)

-- a bit that is set anew is one digit more
pub ones-set : (n k : ℕ) → bit_at n k ≡ 0 → count_ones (bit_or n (2 ^ k)) ≡ count_ones n + 1
ones-set n k clear =
    let m = n / 2 ^ k / 2 in
    let even : n / 2 ^ k ≡ m * 2 = omega (arith, clear) in
    let whole : n ≡ m * 2 * 2 ^ k + n % 2 ^ k = sym (div-add-mod' n (2 ^ k)) ∙ ap (λ x. x * 2 ^ k + n % 2 ^ k) even in
    let small : n % 2 ^ k < 2 ^ k = omega (arith, pow_pos k) in
    ap (λ x. count_ones (bit_or x (2 ^ k))) whole ∙ (ones-set_parts m (n % 2 ^ k) k small ∙ ap (λ x. count_ones x + 1) (sym whole))

-- what `1 << k` computes
abbrev pub bit_of : ℕ → ℕ
bit_of k = 1 * 2 ^ k % 18446744073709551616

bit_of-pow : (k : ℕ) → k < 52 → bit_of k ≡ 2 ^ k
bit_of-pow k h = (one_shifted k 18446744073709551615 refl (omega arith)).0

-- the bits of the four hands together
abbrev pub all_of : List ℕ → ℕ
all_of hands = bit_or (bit_or (bit_or (get_or hands 0 0) (get_or hands 1 0)) (get_or hands 2 0)) (get_or hands 3 0)

bit_at-all_of : (hands : List ℕ) (k : ℕ) → bit_at (all_of hands) k ≡ max (max (max (bit_at (get_or hands 0 0) k) (bit_at (get_or hands 1 0) k)) (bit_at (get_or hands 2 0) k)) (bit_at (get_or hands 3 0) k)
bit_at-all_of hands k = simp bit_at_or

bit_at-and_pow : (n k : ℕ) → bit_and n (2 ^ k) ≡ 0 → bit_at n k ≡ 0
bit_at-and_pow n k h =
    elim (cases_eq (bit_at n k) 0) [
      | inl e ↦ e
      | inr ne ↦
          let one : bit_at n k ≡ 1 = omega (arith, bit_at-lt n k) in
          absurd (omega (arith, pow_pos k, h, and_pow n k ∙ ap (λ x. x * 2 ^ k) one))
    ]

bit_at-and_pow_some : (n k : ℕ) → (bit_and n (2 ^ k) ≡ 0 → ⊥) → bit_at n k ≡ 1
bit_at-and_pow_some n k h =
    elim (cases_eq (bit_at n k) 0) [
      | inl e ↦ absurd (h (omega (arith, and_pow n k ∙ ap (λ x. x * 2 ^ k) e)))
      | inr ne ↦ omega (arith, bit_at-lt n k)
    ]

-- a card that no hand has
all_clear : (hands : List ℕ) (k : ℕ) → bit_at (all_of hands) k ≡ 0 → (seat : Seat) → bit_at (word_of hands seat) k ≡ 0
all_clear hands k h North = omega (arith, bit_at-all_of hands k)
all_clear hands k h East = omega (arith, bit_at-all_of hands k)
all_clear hands k h South = omega (arith, bit_at-all_of hands k)
all_clear hands k h West = omega (arith, bit_at-all_of hands k)

-- a card that some hand has
some_set : (hands : List ℕ) (k : ℕ) → bit_at (all_of hands) k ≡ 1 → (seat : Seat) × (bit_at (word_of hands seat) k ≡ 1)
some_set hands k h =
    let all = bit_at-all_of hands k in
    let north = bit_at-lt (get_or hands 0 0) k in
    let east = bit_at-lt (get_or hands 1 0) k in
    let south = bit_at-lt (get_or hands 2 0) k in
    let west = bit_at-lt (get_or hands 3 0) k in
    elim (cases_eq (bit_at (get_or hands 0 0) k) 1) [
      | inl e ↦ (North, e)
      | inr n ↦ elim (cases_eq (bit_at (get_or hands 1 0) k) 1) [
        | inl e ↦ (East, e)
        | inr m ↦ elim (cases_eq (bit_at (get_or hands 2 0) k) 1) [
          | inl e ↦ (South, e)
          | inr l ↦ (West, omega arith)
        ]
      ]
    ]

cases_both : (a b c d : ℕ) → ((a ≡ b) × (c ≡ d)) ⊎ ((a ≡ b) × (c ≡ d) → ⊥)
cases_both a b c d =
    elim (cases_eq a b) [
      | inl e ↦ elim (cases_eq c d) [ inl f ↦ inl (e, f) | inr n ↦ inr (λ p. n p.1) ]
      | inr n ↦ inr (λ p. n p.0)
    ]

-- the words with the card's bit set in the seat's
abbrev pub with_card : List ℕ → Seat → Card → List ℕ
with_card hands seat card = set hands (seat_number seat) (bit_or (get_or hands (seat_number seat) 0) (bit_of (card_number card)))

module _ (hands : List ℕ) (four : length hands ≡ 4) (seat : Seat) (card : Card) where
  word_of-same : word_of (with_card hands seat card) seat ≡ bit_or (word_of hands seat) (bit_of (card_number card))
  word_of-same = get_or-set_same hands (seat_number seat) _ 0 (omega (arith, seat_number-lt seat))

  word_of-other : (other : Seat) → (seat_number seat ≡ seat_number other → ⊥) → word_of (with_card hands seat card) other ≡ word_of hands other
  word_of-other other ne = get_or-set_other hands (seat_number seat) (seat_number other) _ 0 (λ e. ne (sym e))

  -- the card's bit is set
  HasBit-add_same : HasBit (with_card hands seat card) seat card
  HasBit-add_same = ap (λ w. bit_at w (card_number card)) word_of-same ∙ bit_at_set_same w64 (word_of hands seat) (card_number card) (omega (arith, card_number-lt card))

  -- each other bit is as it was
  bit_at-add_other : (other : Seat) (one : Card) → ((seat_number seat ≡ seat_number other) × (card_number card ≡ card_number one) → ⊥) → bit_at (word_of (with_card hands seat card) other) (card_number one) ≡ bit_at (word_of hands other) (card_number one)
  bit_at-add_other other one ne =
      elim (cases_eq (seat_number seat) (seat_number other)) [
        | inl e ↦
            let same : seat ≡ other = same_from_seat_numbers seat other e in
            let apart : card_number one ≢ card_number card = λ q. ne (e, sym q) in
            let at_seat : bit_at (word_of (with_card hands seat card) seat) (card_number one) ≡ bit_at (word_of hands seat) (card_number one) =
            ap (λ w. bit_at w (card_number one)) word_of-same ∙ bit_at_set_other w64 (word_of hands seat) (card_number card) (omega (arith, card_number-lt card)) (card_number one) apart in
            subst (λ s. bit_at (word_of (with_card hands seat card) s) (card_number one) ≡ bit_at (word_of hands s) (card_number one)) same at_seat
        | inr n ↦ ap (λ w. bit_at w (card_number one)) (word_of-other other n)
      ]

  HasCardsAlone-add : ((other : Seat) → HasCardsAlone (word_of hands other)) → (other : Seat) → HasCardsAlone (word_of (with_card hands seat card) other)
  HasCardsAlone-add before other =
      elim (cases_eq (seat_number seat) (seat_number other)) [
        | inl e ↦
            let same : seat ≡ other = same_from_seat_numbers seat other e in
            let small : bit_of (card_number card) < 2 ^ 52 = rw (bit_of-pow (card_number card) (card_number-lt card)) (pow_below (card_number card) 52 (card_number-lt card)) in
            let at_seat : HasCardsAlone (word_of (with_card hands seat card) seat) = rw word_of-same (or_lt 52 (word_of hands seat) (bit_of (card_number card)) (before seat) small) in
            subst (λ s. HasCardsAlone (word_of (with_card hands seat card) s)) same at_seat
        | inr n ↦ rw (word_of-other other n) (before other)
      ]

  -- what is named after the card is
  abbrev after : List Holding → List Holding
  after held = held ++ held_by seat card ∷ []

  HasBit-add : (held : List Holding) → ((one : Card) (other : Seat) → Contains held (held_by other one) → HasBit hands other one) → (one : Card) (other : Seat) → Contains (after held) (held_by other one) → HasBit (with_card hands seat card) other one
  HasBit-add held has one other h =
      elim (cases_both (seat_number seat) (seat_number other) (card_number card) (card_number one)) [
        | inl e ↦
            let at_card : bit_at (word_of (with_card hands seat card) seat) (card_number one) ≡ 1 = subst (λ n. bit_at (word_of (with_card hands seat card) seat) n ≡ 1) e.1 HasBit-add_same in
            subst (λ s. bit_at (word_of (with_card hands seat card) s) (card_number one) ≡ 1) (same_from_seat_numbers seat other e.0) at_card
        | inr n ↦
            elim (Contains-push_cases held (held_by seat card) (held_by other one) h) [
              | inl old ↦ bit_at-add_other other one n ∙ has one other old
              | inr e ↦ absurd (n (ap (λ (x : Holding). seat_number x.seat) e, ap (λ (x : Holding). card_number x.card) e))
            ]
      ]

  Contains-add : (held : List Holding) → ((one : Card) (other : Seat) → HasBit hands other one → Contains held (held_by other one)) → (one : Card) (other : Seat) → HasBit (with_card hands seat card) other one → Contains (after held) (held_by other one)
  Contains-add held named one other h =
      elim (cases_both (seat_number seat) (seat_number other) (card_number card) (card_number one)) [
        | inl e ↦
            let same : held_by seat card ≡ held_by other one = ap (λ s. held_by s card) (same_from_seat_numbers seat other e.0) ∙ ap (held_by other) (same_from_numbers card one e.1) in
            subst (λ x. Contains (after held) x) same (Contains-push held (held_by seat card))
        | inr n ↦ Contains-append_left held (held_by seat card ∷ []) (held_by other one) (named one other (sym (bit_at-add_other other one n) ∙ h))
      ]

  -- a card named once more than before
  times_named-add : (held : List Holding) → times_named (after held) card ≡ times_named held card + 1
  times_named-add held = omega (arith, times_named-push held (held_by seat card) card, one_if _ (eq-eqb (card_number card) (card_number card) refl))

  NamesTwice-add : (held : List Holding) → NamesTwice held → NamesTwice (after held)
  NamesTwice-add held h = (h.0, omega (arith, h.1, times_named-push held (held_by seat card) h.0))

  -- a card that some hand has is named twice
  NamesTwice-add_again : (held : List Holding) → ((one : Card) (other : Seat) → HasBit hands other one → Contains held (held_by other one)) → (bit_and (all_of hands) (bit_of (card_number card)) ≡ 0 → ⊥) → NamesTwice (after held)
  NamesTwice-add_again held named some =
      let k = card_number card in
      let some' : bit_and (all_of hands) (2 ^ k) ≡ 0 → ⊥ = λ e. some (ap (bit_and (all_of hands)) (bit_of-pow k (card_number-lt card)) ∙ e) in
      let holder = some_set hands k (bit_at-and_pow_some (all_of hands) k some') in
      let before = times_named-pos held card holder.0 (named card holder.0 holder.1) in
      (card, omega (arith, before, times_named-add held))

  -- a card that no hand has
  IsOnce-add : (held : List Holding) → ((one : Card) (other : Seat) → Contains held (held_by other one) → HasBit hands other one) → bit_and (all_of hands) (bit_of (card_number card)) ≡ 0 → IsOnce hands held → IsOnce (with_card hands seat card) (after held)
  IsOnce-add held has none old =
      let k = card_number card in
      let none' : bit_and (all_of hands) (2 ^ k) ≡ 0 = ap (bit_and (all_of hands)) (sym (bit_of-pow k (card_number-lt card))) ∙ none in
      let clear : (s : Seat) → bit_at (word_of hands s) k ≡ 0 = all_clear hands k (bit_at-and_pow (all_of hands) k none') in
      record {
        once = λ one. elim (cases_eq k (card_number one)) [
          | inl e ↦
              let at_one : (s : Seat) → bit_at (word_of hands s) (card_number one) ≡ 0 = λ s. subst (λ n. bit_at (word_of hands s) n ≡ 0) e (clear s) in
              let not_before : 1 ≤ times_named held one → ⊥ = λ h. (let found = named_somewhere held one h in
              absurd (omega (arith, at_one found.0, has one found.0 found.1))) in
              let bound : cond (eqb (card_number card) (card_number one)) 1 0 ≤ 1 = omega (arith, one_if _ (eq-eqb _ _ e)) in
              elim (cases_lt 0 (times_named held one)) [
                | inl some ↦ absurd (not_before some)
                | inr zero_times ↦ omega (arith, zero_times, times_named-push held (held_by seat card) one, bound)
              ]
          | inr n ↦ omega (arith, old.once one, times_named-push held (held_by seat card) one, none_if _ (ne_eqb _ _ n))
        ];
        apart = λ one first other a b. elim (cases_eq k (card_number one)) [
          | inl e ↦
              let is_seat : (s : Seat) → HasBit (with_card hands seat card) s one → seat ≡ s = λ s h. elim (cases_eq (seat_number seat) (seat_number s)) [
                | inl q ↦ same_from_seat_numbers seat s q
                | inr n ↦
                    let cleared : bit_at (word_of hands s) (card_number one) ≡ 0 = subst (λ n. bit_at (word_of hands s) n ≡ 0) e (clear s) in
                    absurd (omega (arith, cleared, bit_at-add_other s one (λ p. n p.0), h))
              ] in
              sym (is_seat first a) ∙ is_seat other b
          | inr n ↦ old.apart one first other (sym (bit_at-add_other first one (λ p. n p.1)) ∙ a) (sym (bit_at-add_other other one (λ p. n p.1)) ∙ b)
        ];
        sizes = λ s. elim (cases_eq (seat_number seat) (seat_number s)) [
          | inl e ↦
              let grown : count_ones (word_of (with_card hands seat card) seat) ≡ count_ones (word_of hands seat) + 1 =
              ap count_ones word_of-same ∙ (ap (λ x. count_ones (bit_or (word_of hands seat) x)) (bit_of-pow k (card_number-lt card)) ∙ ones-set (word_of hands seat) k (clear seat)) in
              let at_seat : count_ones (word_of (with_card hands seat card) seat) ≡ cards_named (after held) seat =
              omega (arith, grown, old.sizes seat, cards_named-push held (held_by seat card) seat, one_if _ (is_same_seat-same seat)) in
              subst (λ x. count_ones (word_of (with_card hands seat card) x) ≡ cards_named (after held) x) (same_from_seat_numbers seat s e) at_seat
          | inr n ↦ omega (arith, ap count_ones (word_of-other s n), old.sizes s, cards_named-push held (held_by seat card) s, none_if _ (is_same_seat-other s seat (λ e. n (sym e))))
        ];
      }

-- a clash is kept, and told of anew
tells : (was is_clear : Bool) (hands hands' : List ℕ) (held held' : List Holding) → TellsTwice was hands held → (is_clear ≡ true → IsOnce hands held → IsOnce hands' held') → (is_clear ≡ false → NamesTwice held') → (NamesTwice held → NamesTwice held') → TellsTwice (was || not is_clear) hands' held'
tells true is_clear hands hands' held held' t f g h = h t
tells false true hands hands' held held' t f g h = f refl t
tells false false hands hands' held held' t f g h = g refl

-- what the words say of one card more
pub Represents-add : (dealing : Dealing) (held : List Holding) (seat : Seat) (card : Card) → Represents dealing held → Represents (record { hands = with_card dealing.hands seat card; is_twice = dealing.is_twice || not (eqb (bit_and (all_of dealing.hands) (bit_of (card_number card))) 0); is_partial = dealing.is_partial }) (held ++ held_by seat card ∷ [])
Represents-add dealing held seat card rep =
    let hands = dealing.hands in
    record {
      four = omega (arith, rep.four, length-set hands (seat_number seat) (bit_or (get_or hands (seat_number seat) 0) (bit_of (card_number card))));
      cards_alone = HasCardsAlone-add hands rep.four seat card rep.cards_alone;
      named = Contains-add hands rep.four seat card held rep.named;
      has = HasBit-add hands rep.four seat card held rep.has;
      twice = tells dealing.is_twice (eqb (bit_and (all_of hands) (bit_of (card_number card))) 0) hands (with_card hands seat card) held (held ++ held_by seat card ∷ []) rep.twice
          (λ e. IsOnce-add hands rep.four seat card held rep.has (eqb-true _ _ e))
          (λ e. NamesTwice-add_again hands rep.four seat card held rep.named (eqb-false _ _ e))
          (NamesTwice-add hands rep.four seat card held);
    }
