-- A card put back into a hand, and its word.
use Rattle.std.proofs.Common.{◌≡◌, ◌≢◌, ◌⊎◌, ℕ, ◌+◌, ◌*◌, ◌/◌, ◌%◌, ◌^◌, ◌<◌, Bool, true, false, cond, ltb}
use Rattle.std.proofs.Common.{List, [], ◌∷◌, ◌++◌, length, get_or, set, refl, sym, ◌∙◌, ap, subst, arith, inl, inr, bit_or, w64}
use Rattle.std.proofs.Common.{get_or-set_same, get_or-set_other, length-set}
use Rattle.std.specs.Prelude.{count_ones}
use Rattle.std.specs.Int.{bit_at}
use Rattle.std.specs.Int.Bits.{or_zero_r}
use Rattle.std.proofs.lemmas.Bool.{cases_eq, cases_lt, lt-ltb, le-ltb}
use Rattle.std.proofs.lemmas.Grind.{one_shifted}
use Rattle.std.proofs.lemmas.List.{length_push}
use Rattle.std.proofs.lemmas.Nat.{pow_below, or_lt, ones_cat, or_block, pow_pos, div-add-mod'}
use Rattle.std.proofs.lemmas.Nat.Bits.{bit_at_set_same, bit_at_set_other, bit_at-lt}
use Rattle.std.proofs.lemmas.Option.{slice_get_within}
use lib.Count.{ones}
use Rattle.cards.specs.declared.seats.Seat.{Seat}
use Rattle.cards.specs.declared.seats.Seat.TheVariants.{North, East, South, West}
use Rattle.cards.specs.declared.pack.Card.{Card}
use Rattle.cards.specs.Pack.{card_number}
use Rattle.cards.proofs.PackLaws.{card_number-lt, same_from_numbers}
use Rattle.cards.specs.Seats.{seat_number, seat_in_place, place_of}
use Rattle.cards.specs.Hands.{word_of, HasBit, HaveCardsAlone, word_size}
use Rattle.dds_calls.specs.BoardPositions.{IsPlayedBy}
use Rattle.dds_calls.specs.Readings.{ArePutBack}
use Rattle.dds_calls.proofs.TrickCards.{place_of-seat, seat_of-place, same_place, played_none, played_more, played_old, played_new}

-- ---- seats
pub seat_number-lt : (s : Seat) → seat_number s < 4
seat_number-lt North = omega arith
seat_number-lt East = omega arith
seat_number-lt South = omega arith
seat_number-lt West = omega arith

pub same_from_seat_numbers : (s t : Seat) → seat_number s ≡ seat_number t → s ≡ t
same_from_seat_numbers North North e = refl
same_from_seat_numbers East East e = refl
same_from_seat_numbers South South e = refl
same_from_seat_numbers West West e = refl
same_from_seat_numbers _ _ e = absurd (omega arith)

-- ---- a bit that is set anew is one digit more
ones-set_lowest : (m : ℕ) → count_ones (bit_or (m * 2) 1) ≡ count_ones (m * 2) + 1
unfolding ones
ones-set_lowest m =
    let e : m * 2 ≡ m * 2 + 0 = omega arith in
    let or : bit_or (m * 2 + 0) (0 * 2 + 1) ≡ bit_or m 0 * 2 + bit_or 0 1 = or_block 1 m 0 0 1 (omega arith) (omega arith) in
    let or' : bit_or (m * 2) 1 ≡ m * 2 + 1 = ap (λ x. bit_or x 1) e ∙ (or ∙ ap (λ x. x * 2 + 1) (or_zero_r m)) in
    let set : count_ones (m * 2 + 1) ≡ count_ones m + 1 = ones_cat 1 m 1 (omega arith) in
    let clear : count_ones (m * 2 + 0) ≡ count_ones m + 0 = ones_cat 1 m 0 (omega arith) in
    omega (arith, set, ap count_ones or', ap count_ones e, clear)

ones-set_parts : (m low k : ℕ) → low < 2 ^ k → count_ones (bit_or (m * 2 * 2 ^ k + low) (2 ^ k)) ≡ count_ones (m * 2 * 2 ^ k + low) + 1
ones-set_parts m low k h =
    let e : 2 ^ k ≡ 1 * 2 ^ k + 0 = omega arith in
    let or : bit_or (m * 2 * 2 ^ k + low) (1 * 2 ^ k + 0) ≡ bit_or (m * 2) 1 * 2 ^ k + bit_or low 0 = or_block k (m * 2) 1 low 0 h (pow_pos k) in
    let or' : bit_or (m * 2 * 2 ^ k + low) (2 ^ k) ≡ bit_or (m * 2) 1 * 2 ^ k + low = ap (λ x. bit_or (m * 2 * 2 ^ k + low) x) e ∙ (or ∙ ap (λ x. bit_or (m * 2) 1 * 2 ^ k + x) (or_zero_r low)) in
    omega (arith, ap count_ones or', ones_cat k (bit_or (m * 2) 1) low h, ones_cat k (m * 2) low h, ones-set_lowest m)

pub ones-set : (n k : ℕ) → bit_at n k ≡ 0 → count_ones (bit_or n (2 ^ k)) ≡ count_ones n + 1
ones-set n k clear =
    let m = n / 2 ^ k / 2 in
    let even : n / 2 ^ k ≡ m * 2 = omega (arith, clear) in
    let whole : n ≡ m * 2 * 2 ^ k + n % 2 ^ k = sym (div-add-mod' n (2 ^ k)) ∙ ap (λ x. x * 2 ^ k + n % 2 ^ k) even in
    let small : n % 2 ^ k < 2 ^ k = omega (arith, pow_pos k) in
    ap (λ x. count_ones (bit_or x (2 ^ k))) whole ∙ (ones-set_parts m (n % 2 ^ k) k small ∙ ap (λ x. count_ones x + 1) (sym whole))

-- what `1 << k` computes
abbrev pub bit_of : ℕ → ℕ
bit_of k = 1 * 2 ^ k % 18446744073709551616

bit_of-pow : (k : ℕ) → k < 52 → bit_of k ≡ 2 ^ k
bit_of-pow k h = (one_shifted k 18446744073709551615 refl (omega arith)).0

cases_both : (a b c d : ℕ) → ((a ≡ b) × (c ≡ d)) ⊎ ((a ≡ b) × (c ≡ d) → ⊥)
cases_both a b c d =
    elim (cases_eq a b) [
      | inl e ↦ elim (cases_eq c d) [ inl f ↦ inl (e, f) | inr n ↦ inr (λ p. n p.1) ]
      | inr n ↦ inr (λ p. n p.0)
    ]

-- the words with the card's bit set in the seat's
abbrev pub with_card : List ℕ → Seat → Card → List ℕ
with_card hands seat card = set hands (seat_number seat) (bit_or (get_or hands (seat_number seat) 0) (bit_of (card_number card)))

module _ (hands : List ℕ) (four : length hands ≡ 4) (seat : Seat) (card : Card) where
  word_of-same : word_of (with_card hands seat card) seat ≡ bit_or (word_of hands seat) (bit_of (card_number card))
  word_of-same = get_or-set_same hands (seat_number seat) _ 0 (omega (arith, seat_number-lt seat))

  word_of-other : (other : Seat) → (seat_number seat ≡ seat_number other → ⊥) → word_of (with_card hands seat card) other ≡ word_of hands other
  word_of-other other ne = get_or-set_other hands (seat_number seat) (seat_number other) _ 0 (λ e. ne (sym e))

  -- the card's bit is set
  HasBit-add_same : HasBit (with_card hands seat card) seat card
  HasBit-add_same = ap (λ w. bit_at w (card_number card)) word_of-same ∙ bit_at_set_same w64 (word_of hands seat) (card_number card) (omega (arith, card_number-lt card))

  -- each other bit is as it was
  bit_at-add_other : (other : Seat) (one : Card) → ((seat_number seat ≡ seat_number other) × (card_number card ≡ card_number one) → ⊥) → bit_at (word_of (with_card hands seat card) other) (card_number one) ≡ bit_at (word_of hands other) (card_number one)
  bit_at-add_other other one ne =
      elim (cases_eq (seat_number seat) (seat_number other)) [
        | inl e ↦
            let same : seat ≡ other = same_from_seat_numbers seat other e in
            let apart : card_number one ≢ card_number card = λ q. ne (e, sym q) in
            let at_seat : bit_at (word_of (with_card hands seat card) seat) (card_number one) ≡ bit_at (word_of hands seat) (card_number one) =
            ap (λ w. bit_at w (card_number one)) word_of-same ∙ bit_at_set_other w64 (word_of hands seat) (card_number card) (omega (arith, card_number-lt card)) (card_number one) apart in
            subst (λ s. bit_at (word_of (with_card hands seat card) s) (card_number one) ≡ bit_at (word_of hands s) (card_number one)) same at_seat
        | inr n ↦ ap (λ w. bit_at w (card_number one)) (word_of-other other n)
      ]

  alone-add : HaveCardsAlone hands → HaveCardsAlone (with_card hands seat card)
  alone-add before other =
      elim (cases_eq (seat_number seat) (seat_number other)) [
        | inl e ↦
            let same : seat ≡ other = same_from_seat_numbers seat other e in
            let small : bit_of (card_number card) < 2 ^ 52 = rw (bit_of-pow (card_number card) (card_number-lt card)) (pow_below (card_number card) 52 (card_number-lt card)) in
            let at_seat : word_of (with_card hands seat card) seat < 2 ^ 52 = rw word_of-same (or_lt 52 (word_of hands seat) (bit_of (card_number card)) (before seat) small) in
            subst (λ s. word_of (with_card hands seat card) s < 2 ^ 52) same at_seat
        | inr n ↦ rw (word_of-other other n) (before other)
      ]

  size-add_same : (HasBit hands seat card → ⊥) → word_size (with_card hands seat card) seat ≡ word_size hands seat + 1
  size-add_same not =
      let k = card_number card in
      let clear : bit_at (word_of hands seat) k ≡ 0 =
      elim (cases_eq (bit_at (word_of hands seat) k) 1) [ inl e ↦ absurd (not e) | inr n ↦ omega (arith, bit_at-lt (word_of hands seat) k) ] in
      ap count_ones word_of-same ∙ (ap (λ x. count_ones (bit_or (word_of hands seat) x)) (bit_of-pow k (card_number-lt card)) ∙ ones-set (word_of hands seat) k clear)

  size-add_other : (other : Seat) → (seat_number seat ≡ seat_number other → ⊥) → word_size (with_card hands seat card) other ≡ word_size hands other
  size-add_other other ne = ap count_ones (word_of-other other ne)

-- ---- the cards of a trick put back
pub put_none : (words : List ℕ) (leader : Seat) → length words ≡ 4 → ArePutBack words leader [] words
put_none words leader four = record {
  four = four;
  bits = λ card seat. (λ h. inl h, λ h. elim h [ inl p ↦ p | inr p ↦ absurd (played_none leader seat card p) ]);
  sizes = λ seat. omega (arith, ap (λ (b : Bool). cond {A = ℕ} b 1 0) (le-ltb (place_of leader seat) 0 (omega arith)));
  alone = λ h. h;
}

module _ (words : List ℕ) (leader : Seat) (cards : List Card) (back : List ℕ) (card : Card) (put : ArePutBack words leader cards back) (short : length cards < 3) (gone : (seat : Seat) → HasBit words seat card → ⊥) where
  abbrev turn : Seat
  turn = seat_in_place leader (length cards)

  abbrev more : List ℕ
  more = with_card back turn card

  -- the card is not in the hand to which it goes back
  not_there : HasBit back turn card → ⊥
  not_there h =
      elim ((put.bits card turn).0 h) [
        | inl old ↦ gone turn old
        | inr p ↦
            let within : p.0 < length cards = slice_get_within cards p.0 card p.1 in
            absurd (omega (arith, within, same_place leader p.0 (length cards) (omega (arith, within)) (omega arith) p.2))
      ]

  to_old : (one : Card) (seat : Seat) → HasBit more seat one → HasBit words seat one ⊎ IsPlayedBy leader (cards ++ card ∷ []) seat one
  to_old one seat h =
      elim (cases_both (seat_number turn) (seat_number seat) (card_number card) (card_number one)) [
        | inl e ↦
            let same_seat : turn ≡ seat = same_from_seat_numbers turn seat e.0 in
            let same_card : card ≡ one = same_from_numbers card one e.1 in
            let P : Seat → Type 0 = λ s. IsPlayedBy leader (cards ++ card ∷ []) s card in
            let Q : Card → Type 0 = λ x. IsPlayedBy leader (cards ++ card ∷ []) seat x in
            inr (subst Q same_card (subst P same_seat (played_new leader cards card)))
        | inr n ↦ elim ((put.bits one seat).0 (sym (bit_at-add_other back put.four turn card seat one n) ∙ h)) [
          | inl old ↦ inl old
          | inr p ↦ inr (played_old leader cards card seat one p)
        ]
      ]

  at_new : HasBit more turn card
  at_new = HasBit-add_same back put.four turn card

  kept_bit : (one : Card) (seat : Seat) → HasBit back seat one → HasBit more seat one
  kept_bit one seat h =
      elim (cases_both (seat_number turn) (seat_number seat) (card_number card) (card_number one)) [
        | inl e ↦
            let same_seat : turn ≡ seat = same_from_seat_numbers turn seat e.0 in
            let same_card : card ≡ one = same_from_numbers card one e.1 in
            let P : Seat → Type 0 = λ s. HasBit more s card in
            let Q : Card → Type 0 = λ x. HasBit more seat x in
            subst Q same_card (subst P same_seat at_new)
        | inr n ↦ bit_at-add_other back put.four turn card seat one n ∙ h
      ]

  from_old : (one : Card) (seat : Seat) → HasBit words seat one ⊎ IsPlayedBy leader (cards ++ card ∷ []) seat one → HasBit more seat one
  from_old one seat h =
      elim h [
        | inl old ↦ kept_bit one seat ((put.bits one seat).1 (inl old))
        | inr p ↦ elim (played_more leader cards card seat one p) [
          | inl q ↦ kept_bit one seat ((put.bits one seat).1 (inr q))
          | inr q ↦
              let P : Seat → Type 0 = λ s. HasBit more s card in
              let Q : Card → Type 0 = λ x. HasBit more seat x in
              subst Q q.1 (subst P q.0 at_new)
        ]
      ]

  more_sizes : (seat : Seat) → word_size more seat ≡ word_size words seat + cond (ltb (place_of leader seat) (length cards + 1)) 1 0
  more_sizes seat =
      let at_turn : place_of leader turn ≡ length cards = place_of-seat leader (length cards) (omega arith) in
      elim (cases_eq (seat_number turn) (seat_number seat)) [
        | inl e ↦
            let same : turn ≡ seat = same_from_seat_numbers turn seat e in
            let grown : word_size more turn ≡ word_size back turn + 1 = size-add_same back put.four turn card not_there in
            let was : ltb (place_of leader turn) (length cards) ≡ false = le-ltb _ _ (omega (arith, at_turn)) in
            let is : ltb (place_of leader turn) (length cards + 1) ≡ true = lt-ltb _ _ (omega (arith, at_turn)) in
            let whole : word_size more turn ≡ word_size words turn + cond (ltb (place_of leader turn) (length cards + 1)) 1 0 =
            omega (arith, grown, put.sizes turn, ap (λ (b : Bool). cond {A = ℕ} b 1 0) was, ap (λ (b : Bool). cond {A = ℕ} b 1 0) is) in
            subst (λ s. word_size more s ≡ word_size words s + cond (ltb (place_of leader s) (length cards + 1)) 1 0) same whole
        | inr n ↦
            let apart : place_of leader seat ≢ length cards = λ q. n (ap seat_number (ap (seat_in_place leader) (sym q) ∙ seat_of-place leader seat)) in
            let kept : word_size more seat ≡ word_size back seat = size-add_other back put.four turn card seat n in
            elim (cases_lt (place_of leader seat) (length cards)) [
              | inl l ↦
                  let was = lt-ltb (place_of leader seat) (length cards) l in
                  let is = lt-ltb (place_of leader seat) (length cards + 1) (omega (arith, l)) in
                  omega (arith, kept, put.sizes seat, ap (λ (b : Bool). cond {A = ℕ} b 1 0) was, ap (λ (b : Bool). cond {A = ℕ} b 1 0) is)
              | inr l ↦
                  let was = le-ltb (place_of leader seat) (length cards) l in
                  let is = le-ltb (place_of leader seat) (length cards + 1) (omega (arith, l, apart)) in
                  omega (arith, kept, put.sizes seat, ap (λ (b : Bool). cond {A = ℕ} b 1 0) was, ap (λ (b : Bool). cond {A = ℕ} b 1 0) is)
            ]
      ]

  put_more : ArePutBack words leader (cards ++ card ∷ []) more
  put_more = record {
    four = length-set back (seat_number turn) _ ∙ put.four;
    bits = λ one seat. (to_old one seat, from_old one seat);
    sizes = λ seat. subst (λ n. word_size more seat ≡ word_size words seat + cond (ltb (place_of leader seat) n) 1 0) (sym (length_push cards card)) (more_sizes seat);
    alone = λ h. alone-add back put.four turn card (put.alone h);
  }

pub put_one_more : (words : List ℕ) (leader : Seat) (cards longer : List Card) (back back' : List ℕ) (card : Card) → ArePutBack words leader cards back → length cards < 3 → ((seat : Seat) → HasBit words seat card → ⊥) → longer ≡ cards ++ card ∷ [] → back' ≡ with_card back (seat_in_place leader (length cards)) card → ArePutBack words leader longer back'
put_one_more words leader cards longer back back' card put short gone e is =
    let P : List Card → Type 0 = λ xs. ArePutBack words leader xs back' in
    let Q : List ℕ → Type 0 = λ b. ArePutBack words leader (cards ++ card ∷ []) b in
    subst P (sym e) (subst Q (sym is) (put_more words leader cards back card put short gone))
