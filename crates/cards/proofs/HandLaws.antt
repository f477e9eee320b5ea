-- What four words and the deal that they stand for have to do with each other.
use Rattle.std.proofs.Common.{◌≡◌, ◌≢◌, ℕ, zero, suc, ◌+◌, ◌<◌, ◌≤◌, ◌^◌, Bool, true, false, cond, eqb, List, Option, None, Some, refl, sym, ◌∙◌, ap, arith, inl, inr, ◌⊎◌, bit_and, bit_or, min, max, ◌/◌, ◌%◌, ◌*◌, ◌↔◌, w64, IsTrue}
use Rattle.std.specs.Prelude.{slice_index}
use Rattle.std.specs.Int.{bit_at}
use Rattle.std.proofs.lemmas.Nat.Bits.{bit_at-lt, bit_at_and, bit_at_or, bit_at-zero, bit_at_above, bit_at-trailing_zeros, bit_at_ones}
use Rattle.std.proofs.lemmas.Bool.{eqb-true, eq-eqb, cases_lt}
use Rattle.std.proofs.lemmas.Nat.{or_lt, le_or_l, le_or_r, and_le_l, shr-shr}
use Rattle.std.specs.Int.{trailing_zeros}
use Rattle.cards.specs.declared.seats.Seat.{Seat}
use Rattle.cards.specs.declared.seats.Seat.TheVariants.{North, East, South, West}
use Rattle.cards.specs.declared.pack.Card.{Card}
use Rattle.cards.specs.declared.pack.Rank.{Rank}
use Rattle.cards.specs.declared.suits.Suit.{Suit}
use Rattle.cards.specs.Pack.{card_number, card_at, card_of, rank_number, suit_number}
use Rattle.cards.specs.Deal.{Deal, IsLayout, holder_of, is_held_by}
use Rattle.cards.specs.Hands.{word_of, holder_by_words, deal_of_words, IsDealt, Deals, AreDisjoint, HaveStrayBit, HaveCardsAlone, HaveCardTwice}
use Rattle.cards.proofs.PackLaws.{card_number-lt, card_number-card_at, rank_number-lt}
use Rattle.cards.specs.SameDeal.{bit_of_seat, bit_of_word, held_by_word, length-deal_of_words, get_or-deal_of_words, count_of-deal_of_words, same_seat, is_same_seat-refl}

pub holder_of-deal_of_words : (hands : List ℕ) (card : Card) → holder_of (deal_of_words hands) card ≡ holder_by_words hands (card_number card)
holder_of-deal_of_words hands card = get_or-deal_of_words hands (card_number card) (card_number-lt card)

pub held-is : (seat : Seat) (holder : Option Seat) → is_held_by seat holder ≡ true → holder ≡ Some seat
held-is seat None h = cc
held-is seat (Some other) h = ap Some (sym (same_seat seat other h))

cond-one : (b : Bool) → ◌≡◌ {A = ℕ} (cond b 1 0) 1 → b ≡ true
cond-one true h = refl
cond-one false h = absurd (omega arith)

-- each seat holds the cards of its word
pub Deals-from_words : (hands : List ℕ) → IsDealt hands → Deals hands (deal_of_words hands)
Deals-from_words hands dealt = record {
  held = λ card seat bit. holder_of-deal_of_words hands card ∙ held-is seat _ (cond-one _ (held_by_word hands dealt seat (card_number card) ∙ bit));
  no_others = λ card seat held.
      let by_words : holder_by_words hands (card_number card) ≡ Some seat = sym (holder_of-deal_of_words hands card) ∙ held in
      sym (held_by_word hands dealt seat (card_number card)) ∙ ap (λ b. cond b 1 0) (ap (is_held_by seat) by_words ∙ is_same_seat-refl seat);
}

Some-injective : (one other : Seat) → Some one ≡ Some other → one ≡ other
Some-injective one other h = cc

pub AreDisjoint-from_dealt : (hands : List ℕ) → IsDealt hands → AreDisjoint hands
AreDisjoint-from_dealt hands dealt = λ card one other a b.
    let deals = Deals-from_words hands dealt in
    Some-injective one other (sym (deals.held card one a) ∙ deals.held card other b)

-- a layout's words make a layout
pub IsLayout-from_words : (hands : List ℕ) → IsDealt hands → IsLayout (deal_of_words hands)
IsLayout-from_words hands dealt =
    let count = count_of-deal_of_words hands dealt in
    record {
      whole_pack = length-deal_of_words hands;
      some_cards = rw (count North) dealt.sized.some_cards;
      at_most_13 = rw (count North) dealt.sized.at_most_13;
      equal_hands = λ seat. count seat ∙ (dealt.sized.equal seat ∙ sym (count North));
    }

-- the holder of a card, from the words that stand for the deal
pub holder_from_words : (deal : Deal) (hands : List ℕ) (card : Card) (i : ℕ) → deal_of_words hands ≡ deal → i ≡ card_number card → holder_of deal card ≡ holder_by_words hands i
holder_from_words deal hands card i is e = ap (λ d. holder_of d card) (sym is) ∙ (holder_of-deal_of_words hands card ∙ ap (holder_by_words hands) (sym e))

-- the holder of the card with this number, by the first word that has its bit

-- what `holds` answers is whether the seat holds the card
pub IsTrue_held : (deal : Deal) (hands : List ℕ) (seat : Seat) (card : Card) (answer : Bool) → IsDealt hands → deal_of_words hands ≡ deal → answer ≡ eqb (bit_at (word_of hands seat) (card_number card)) 1 → IsTrue answer ↔ (holder_of deal card ≡ Some seat)
IsTrue_held deal hands seat card answer dealt is e =
    let deals : Deals hands deal = rw is at (Deals-from_words hands dealt) in
    (λ t. deals.held card seat (eqb-true _ 1 (sym e ∙ t)), λ h. e ∙ eq-eqb _ 1 (deals.no_others card seat h))

some_stray_word : (a b c d : ℕ) → bit_or (bit_or (bit_or a b) c) d / 2 ^ 52 ≢ 0 → (2 ^ 52 ≤ a) ⊎ ((2 ^ 52 ≤ b) ⊎ ((2 ^ 52 ≤ c) ⊎ (2 ^ 52 ≤ d)))
some_stray_word a b c d h =
    elim (cases_lt a (2 ^ 52)) [
      | inr p ↦ inl p
      | inl p ↦ elim (cases_lt b (2 ^ 52)) [
        | inr q ↦ inr (inl q)
        | inl q ↦ elim (cases_lt c (2 ^ 52)) [
          | inr r ↦ inr (inr (inl r))
          | inl r ↦ elim (cases_lt d (2 ^ 52)) [
            | inr s ↦ inr (inr (inr s))
            | inl s ↦
                let small : bit_or (bit_or (bit_or a b) c) d < 2 ^ 52 = or_lt 52 _ d (or_lt 52 _ c (or_lt 52 a b p q) r) s in
                absurd (h (omega arith))
          ]
        ]
      ]
    ]

-- the test for stray bits, where it fails
pub some_stray : (hands : List ℕ) → bit_or (bit_or (bit_or (slice_index hands 0) (slice_index hands 1)) (slice_index hands 2)) (slice_index hands 3) / 2 ^ 52 ≢ 0 → HaveStrayBit hands
some_stray hands h =
    elim (some_stray_word _ _ _ _ h) [
      | inl p ↦ (North, p)
      | inr x ↦ elim x [
        | inl p ↦ (East, p)
        | inr y ↦ elim y [ inl p ↦ (South, p) | inr p ↦ (West, p) ]
      ]
    ]

-- and where it passes
pub all_cards : (hands : List ℕ) → bit_or (bit_or (bit_or (slice_index hands 0) (slice_index hands 1)) (slice_index hands 2)) (slice_index hands 3) / 2 ^ 52 ≡ 0 → HaveCardsAlone hands
all_cards hands h =
    let a = slice_index hands 0 in
    let b = slice_index hands 1 in
    let c = slice_index hands 2 in
    let d = slice_index hands 3 in
    let cd = le_or_l (bit_or (bit_or a b) c) d in
    let d' = le_or_r (bit_or (bit_or a b) c) d in
    let bc = le_or_l (bit_or a b) c in
    let c' = le_or_r (bit_or a b) c in
    let ab = le_or_l a b in
    let b' = le_or_r a b in
    elim [ North ↦ omega arith | East ↦ omega arith | South ↦ omega arith | West ↦ omega arith ]

-- the bits that two of four words share
abbrev pub shared_of : ℕ → ℕ → ℕ → ℕ → ℕ
shared_of a b c d = bit_or (bit_or (bit_or (bit_or (bit_or (bit_and a b) (bit_and a c)) (bit_and a d)) (bit_and b c)) (bit_and b d)) (bit_and c d)

bit_at-shared_of : (a b c d i : ℕ) → bit_at (shared_of a b c d) i ≡ max (max (max (max (max (min (bit_at a i) (bit_at b i)) (min (bit_at a i) (bit_at c i))) (min (bit_at a i) (bit_at d i))) (min (bit_at b i) (bit_at c i))) (min (bit_at b i) (bit_at d i))) (min (bit_at c i) (bit_at d i))
bit_at-shared_of a b c d i = simp (bit_at_or, bit_at_and)

at_most_one_bit : (p q r s : ℕ) → p < 2 → q < 2 → r < 2 → s < 2 → max (max (max (max (max (min p q) (min p r)) (min p s)) (min q r)) (min q s)) (min r s) ≡ 0 → p + q + r + s ≤ 1
at_most_one_bit zero zero r s hp hq hr hs h = omega arith
at_most_one_bit (suc zero) zero zero zero hp hq hr hs h = omega arith
at_most_one_bit zero (suc zero) zero zero hp hq hr hs h = omega arith
at_most_one_bit _ _ _ _ hp hq hr hs h = absurd (omega arith)

-- no bit is in two words where none is shared
pub at_most_one : (hands : List ℕ) → shared_of (slice_index hands 0) (slice_index hands 1) (slice_index hands 2) (slice_index hands 3) ≡ 0 → (i : ℕ) → bit_at (slice_index hands 0) i + bit_at (slice_index hands 1) i + bit_at (slice_index hands 2) i + bit_at (slice_index hands 3) i ≤ 1
at_most_one hands h i =
    let a = slice_index hands 0 in
    let b = slice_index hands 1 in
    let c = slice_index hands 2 in
    let d = slice_index hands 3 in
    at_most_one_bit _ _ _ _ (bit_at-lt a i) (bit_at-lt b i) (bit_at-lt c i) (bit_at-lt d i)
    (sym (bit_at-shared_of a b c d i) ∙ (ap (λ x. bit_at x i) h ∙ bit_at-zero i))

one_seat : (p q r s : ℕ) → p + q + r + s ≤ 1 → (one other : Seat) → bit_of_seat one p q r s ≡ 1 → bit_of_seat other p q r s ≡ 1 → one ≡ other
one_seat p q r s h North North x y = refl
one_seat p q r s h East East x y = refl
one_seat p q r s h South South x y = refl
one_seat p q r s h West West x y = refl
one_seat p q r s h _ _ x y = absurd (omega arith)

pub AreDisjoint-from_bits : (hands : List ℕ) → ((i : ℕ) → bit_at (slice_index hands 0) i + bit_at (slice_index hands 1) i + bit_at (slice_index hands 2) i + bit_at (slice_index hands 3) i ≤ 1) → AreDisjoint hands
AreDisjoint-from_bits hands h = λ card one other x y.
    let i = card_number card in
    one_seat _ _ _ _ (h i) one other (bit_of_word hands one i ∙ x) (bit_of_word hands other i ∙ y)

bit_cases : (n i : ℕ) → (bit_at n i ≡ 1) ⊎ (bit_at n i ≡ 0)
bit_cases n i = elim (cases_lt 0 (bit_at n i)) [ inl h ↦ inl (omega (arith, bit_at-lt n i)) | inr h ↦ inr (omega arith) ]

-- two seats with a bit of four
abbrev TwoSeats : ℕ → ℕ → ℕ → ℕ → Type 0
TwoSeats p q r s = (one : Seat) × (other : Seat) × (one ≢ other) × (bit_of_seat one p q r s ≡ 1) × (bit_of_seat other p q r s ≡ 1)

two_seats : (p q r s : ℕ) → p < 2 → q < 2 → r < 2 → s < 2 → 0 < max (max (max (max (max (min p q) (min p r)) (min p s)) (min q r)) (min q s)) (min r s) → TwoSeats p q r s
two_seats (suc zero) (suc zero) r s hp hq hr hs h = (North, East, λ e. cc, refl, refl)
two_seats (suc zero) zero (suc zero) s hp hq hr hs h = (North, South, λ e. cc, refl, refl)
two_seats (suc zero) zero zero (suc zero) hp hq hr hs h = (North, West, λ e. cc, refl, refl)
two_seats zero (suc zero) (suc zero) s hp hq hr hs h = (East, South, λ e. cc, refl, refl)
two_seats zero (suc zero) zero (suc zero) hp hq hr hs h = (East, West, λ e. cc, refl, refl)
two_seats zero zero (suc zero) (suc zero) hp hq hr hs h = (South, West, λ e. cc, refl, refl)
two_seats _ _ _ _ hp hq hr hs h = absurd (omega arith)

-- a number above 0 has a bit
some_bit : (n : ℕ) → n < 2 ^ 64 → n ≢ 0 → (i : ℕ) × (bit_at n i ≡ 1)
some_bit n h e = (trailing_zeros w64 n, (bit_at-trailing_zeros w64 n (omega arith) h).1)

-- two seats with the bit of a card have the card
card_of_two : (hands : List ℕ) (i : ℕ) → i < 52 → TwoSeats (bit_at (slice_index hands 0) i) (bit_at (slice_index hands 1) i) (bit_at (slice_index hands 2) i) (bit_at (slice_index hands 3) i) → HaveCardTwice hands
card_of_two hands i within (one, other, apart, by_one, by_other) =
    let number = card_number-card_at i within in
    record {
      card = card_at i;
      one = one;
      other = other;
      apart = apart;
      in_one = ap (bit_at (word_of hands one)) number ∙ (sym (bit_of_word hands one i) ∙ by_one);
      in_other = ap (bit_at (word_of hands other)) number ∙ (sym (bit_of_word hands other i) ∙ by_other);
    }

-- no bit from 52 up is shared where the words have none
shared_of-lt : (a b c d : ℕ) → a < 2 ^ 52 → b < 2 ^ 52 → c < 2 ^ 52 → shared_of a b c d < 2 ^ 52
shared_of-lt a b c d ha hb hc =
    let and_lt : (x y : ℕ) → x < 2 ^ 52 → bit_and x y < 2 ^ 52 = λ x y hx. omega (arith, and_le_l x y) in
    or_lt 52 _ _ (or_lt 52 _ _ (or_lt 52 _ _ (or_lt 52 _ _ (or_lt 52 _ _ (and_lt a b ha) (and_lt a c ha)) (and_lt a d ha)) (and_lt b c hb)) (and_lt b d hb)) (and_lt c d hc)

-- a bit of a number below 2 ^ 52 is below 52
bit_below : (n i : ℕ) → n < 2 ^ 52 → bit_at n i ≡ 1 → i < 52
bit_below n i small set = elim (cases_lt i 52) [ inl l ↦ l | inr g ↦ absurd (omega (arith, bit_at_above n 52 i small g)) ]

-- a card is in two words where a bit is shared
pub some_card_twice : (hands : List ℕ) → HaveCardsAlone hands → shared_of (slice_index hands 0) (slice_index hands 1) (slice_index hands 2) (slice_index hands 3) ≢ 0 → HaveCardTwice hands
some_card_twice hands alone h =
    let a = slice_index hands 0 in
    let b = slice_index hands 1 in
    let c = slice_index hands 2 in
    let d = slice_index hands 3 in
    let shared = shared_of a b c d in
    let small : shared < 2 ^ 52 = shared_of-lt a b c d (alone North) (alone East) (alone South) in
    let bit = some_bit shared (omega arith) h in
    let i = bit.0 in
    let above : 0 < bit_at shared i = omega (arith, bit.1) in
    card_of_two hands i (bit_below shared i small bit.1)
    (two_seats _ _ _ _ (bit_at-lt a i) (bit_at-lt b i) (bit_at-lt c i) (bit_at-lt d i) (rw (bit_at-shared_of a b c d i) at above))

-- bit r of thirteen bits that are cut out of a word
pub bit_at-cut : (word k r : ℕ) → r < 13 → bit_at (bit_and (word / 2 ^ k) 8191) r ≡ bit_at word (k + r)
bit_at-cut word k r h =
    let low : bit_at 8191 r ≡ 1 = bit_at_ones 13 r h in
    let cut : bit_at (bit_and (word / 2 ^ k) 8191) r ≡ min (bit_at (word / 2 ^ k) r) (bit_at 8191 r) = bit_at_and (word / 2 ^ k) 8191 r in
    let moved : bit_at (word / 2 ^ k) r ≡ bit_at word (k + r) = ap (λ n. n % 2) (shr-shr word k r) in
    omega (arith, bit_at-lt word (k + r))

-- the bits of a holding tell who holds the cards of the suit
pub bits_of_holding : (deal : Deal) (hands : List ℕ) (seat : Seat) (suit : Suit) → IsDealt hands → deal_of_words hands ≡ deal → (rank : Rank) → (bit_at (bit_and (word_of hands seat / 2 ^ (13 * suit_number suit)) 8191) (rank_number rank) ≡ 1) ↔ (holder_of deal (card_of suit rank) ≡ Some seat)
bits_of_holding deal hands seat suit dealt is rank =
    let deals : Deals hands deal = rw is at (Deals-from_words hands dealt) in
    let cut = bit_at-cut (word_of hands seat) (13 * suit_number suit) (rank_number rank) (rank_number-lt rank) in
    (λ h. deals.held (card_of suit rank) seat (sym cut ∙ h), λ h. cut ∙ deals.no_others (card_of suit rank) seat h)
