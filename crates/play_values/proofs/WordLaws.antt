-- The words of the cards that are left, and their layout.
use Rattle.std.proofs.Common.{◌≡◌, ℕ, suc, ◌+◌, ◌-◌, ◌*◌, ◌<◌, ◌^◌, Bool, true, false, cond, List, [], ◌∷◌, length, map, drop, get_or, Option, None, Some, refl, sym, ◌∙◌, ap, subst, arith, inl, inr, length-drop, drop-cons}
use Rattle.std.proofs.lemmas.Bool.{cases_Bool}
use Rattle.std.proofs.lemmas.List.{ext_get_or, get_or-map, length-map}
use Rattle.std.proofs.lemmas.Nat.{pow_below}
use Rattle.std.proofs.lemmas.Simd.{bit_mask_l, mask_l-lt, ones-mask_l}
use Rattle.std.specs.Prelude.{count_ones}
use Rattle.std.specs.Int.{bit_at}
use lib.Lanes.{mask_l}
use Rattle.cards.specs.declared.seats.Seat.{Seat}
use Rattle.cards.specs.declared.seats.Seat.TheVariants.{North, East, South, West}
use Rattle.cards.specs.declared.layouts.LayoutFault.{LayoutFault}
use Rattle.cards.specs.declared.layouts.LayoutFault.TheVariants.{StrayBit, CardTwice, HandSize}
use Rattle.cards.specs.declared.pack.Card.{Card}
use Rattle.cards.specs.Pack.{card_number, card_at}
use Rattle.cards.proofs.PackLaws.{card_number-card_at, card_number-lt}
use Rattle.cards.proofs.HandLaws.{held-is}
use Rattle.cards.specs.SameDeal.{is_same_seat-refl}
use Rattle.cards.specs.Deal.{Deal, IsLayout, holder_of, is_held_by, count_of}
use Rattle.cards.specs.FromHands.{IsLayoutOf, MeetsHands}
use Rattle.cards.specs.Hands.{word_of, HasBit, word_size, words_of_deal, word_of_deal, Deals}
use Rattle.std.specs.Prelude.{Ok, Err}

-- ---- one word
-- a word grows at its low end
word_more : (left : Deal) (seat : Seat) (place : ℕ) (b : Bool) → place < length left → is_held_by seat (get_or left place None) ≡ b →
    2 * word_of_deal seat (drop (suc place) left) + cond b 1 0 ≡ word_of_deal seat (drop place left)
unfolding word_of_deal
word_more left seat place b h is = rw (drop-cons left place None, is) (omega arith)

not_held : (seat : Seat) (holder : Option Seat) → (holder ≡ Some seat → ⊥) → is_held_by seat holder ≡ false
not_held seat holder not =
    elim (cases_Bool (is_held_by seat holder)) [ inl t ↦ absurd (not (held-is seat holder t)) | inr f ↦ f ]

pub word_held : (left : Deal) (seat : Seat) (place : ℕ) → length left ≡ 52 → place < 52 → get_or left (51 - place) None ≡ Some seat → 2 * word_of_deal seat (drop (52 - place) left) + 1 ≡ word_of_deal seat (drop (52 - (place + 1)) left)
word_held left seat place all h is =
    let next : suc (51 - place) ≡ 52 - place = omega arith in
    let here : 51 - place ≡ 52 - (place + 1) = omega arith in
    rw (← next, ← here) (word_more left seat (51 - place) true (omega arith) (ap (is_held_by seat) is ∙ is_same_seat-refl seat))

pub word_other : (left : Deal) (seat : Seat) (place : ℕ) → length left ≡ 52 → place < 52 → (get_or left (51 - place) None ≡ Some seat → ⊥) → 2 * word_of_deal seat (drop (52 - place) left) + 0 ≡ word_of_deal seat (drop (52 - (place + 1)) left)
word_other left seat place all h not =
    let next : suc (51 - place) ≡ 52 - place = omega arith in
    let here : 51 - place ≡ 52 - (place + 1) = omega arith in
    rw (← next, ← here) (word_more left seat (51 - place) false (omega arith) (not_held seat (get_or left (51 - place) None) not))

pub word_small : (left : Deal) (seat : Seat) (place : ℕ) → length left ≡ 52 → place < 52 → word_of_deal seat (drop (52 - place) left) < 2 ^ 52
unfolding word_of_deal
word_small left seat place all h =
    let rest = drop (52 - place) left in
    let size : length (map (is_held_by seat) rest) ≡ place = length-map rest (is_held_by seat) ∙ (length-drop (52 - place) left ∙ omega (arith, all)) in
    let small : mask_l (map (is_held_by seat) rest) < 2 ^ place = rw size at (mask_l-lt (map (is_held_by seat) rest)) in
    omega (arith, small, pow_below place 52 h)

-- ---- four words
word_is : (left : Deal) (seat : Seat) → word_of (words_of_deal left) seat ≡ word_of_deal seat left
word_is left North = refl
word_is left East = refl
word_is left South = refl
word_is left West = refl

module _ (left : Deal) (layout : IsLayout left) where
  -- a bit of a seat's word says whether the seat holds the card
  bit_is : (seat : Seat) (card : Card) → bit_at (word_of (words_of_deal left) seat) (card_number card) ≡ cond (is_held_by seat (holder_of left card)) 1 0
  unfolding word_of_deal
  bit_is seat card =
      let within : card_number card < length left = omega (arith, layout.whole_pack, card_number-lt card) in
      ap (λ w. bit_at w (card_number card)) (word_is left seat)
      ∙ (bit_mask_l (map (is_held_by seat) left) (card_number card)
      ∙ ap (λ b. cond b 1 0) (get_or-map (is_held_by seat) left (card_number card) None false within))

  held_from_bit : (seat : Seat) (card : Card) → HasBit (words_of_deal left) seat card → holder_of left card ≡ Some seat
  held_from_bit seat card h =
      elim (cases_Bool (is_held_by seat (holder_of left card))) [
        | inl t ↦ held-is seat (holder_of left card) t
        | inr f ↦ absurd (omega (arith, h, bit_is seat card, ap (λ b. cond {A = ℕ} b 1 0) f))
      ]

  bit_from_held : (seat : Seat) (card : Card) → holder_of left card ≡ Some seat → HasBit (words_of_deal left) seat card
  bit_from_held seat card held = bit_is seat card ∙ ap (λ b. cond b 1 0) (ap (is_held_by seat) held ∙ is_same_seat-refl seat)

  size_is : (seat : Seat) → word_size (words_of_deal left) seat ≡ count_of left seat
  unfolding word_of_deal
  size_is seat = ap count_ones (word_is left seat) ∙ ones-mask_l (is_held_by seat) left

  none_seat : (seat : Seat) → None ≡ Some seat → ⊥
  none_seat seat h = cc

  some_seat : (one other : Seat) → Some one ≡ Some other → one ≡ other
  some_seat one other h = cc

  same_holder : (deal : Deal) → Deals (words_of_deal left) deal → (card : Card) (of_left of_deal : Option Seat) → holder_of left card ≡ of_left → holder_of deal card ≡ of_deal → of_deal ≡ of_left
  same_holder deal deals card (Some seat) of_deal at_left at_deal = sym at_deal ∙ deals.held card seat (bit_from_held seat card at_left)
  same_holder deal deals card None None at_left at_deal = refl
  same_holder deal deals card None (Some seat) at_left at_deal =
      absurd (none_seat seat (sym at_left ∙ held_from_bit seat card (deals.no_others card seat at_deal)))

  -- the layout of the words is the deal
  same_layout : (deal : Deal) → IsLayoutOf (words_of_deal left) deal → deal ≡ left
  same_layout deal is =
      ext_get_or None deal left (is.layout.whole_pack ∙ sym layout.whole_pack)
      (λ i h. let number : card_number (card_at i) ≡ i = card_number-card_at i (omega (arith, is.layout.whole_pack)) in
      ap (λ (k : ℕ). get_or deal k None) (sym number)
      ∙ (same_holder deal is.deals (card_at i) (holder_of left (card_at i)) (holder_of deal (card_at i)) refl refl
      ∙ ap (λ (k : ℕ). get_or left k None) number))

  -- the words are never refused
  no_fault : (fault : LayoutFault) → MeetsHands (words_of_deal left) (Err fault) → ⊥
  unfolding word_of_deal
  no_fault StrayBit stray =
      let size : length (map (is_held_by stray.0) left) ≡ 52 = length-map left (is_held_by stray.0) ∙ layout.whole_pack in
      let small : mask_l (map (is_held_by stray.0) left) < 2 ^ 52 = rw size at (mask_l-lt (map (is_held_by stray.0) left)) in
      omega (arith, word_is left stray.0, stray.1, small)
  no_fault CardTwice (alone, twice) =
      twice.apart (some_seat twice.one twice.other (sym (held_from_bit twice.one twice.card twice.in_one) ∙ held_from_bit twice.other twice.card twice.in_other))
  no_fault HandSize (alone, disjoint, size) =
      elim size [
        | inl none ↦ omega (arith, size_is North, layout.some_cards)
        | inr other ↦ elim other [
          | inl many ↦ omega (arith, size_is North, layout.at_most_13)
          | inr (seat, apart) ↦ apart (size_is seat ∙ (layout.equal_hands seat ∙ sym (size_is North)))
        ]
      ]

  pub layout_is : (north east south west : ℕ) (deal : Deal) → north ≡ word_of_deal North left → east ≡ word_of_deal East left → south ≡ word_of_deal South left → west ≡ word_of_deal West left → MeetsHands (north ∷ east ∷ south ∷ west ∷ []) (Ok deal) → deal ≡ left
  layout_is north east south west deal n e s w is =
      let words : north ∷ east ∷ south ∷ west ∷ [] ≡ words_of_deal left = cc in
      same_layout deal (subst (λ (hands : List ℕ). IsLayoutOf hands deal) words is)

  pub layout_is_there : (north east south west : ℕ) (fault : LayoutFault) → north ≡ word_of_deal North left → east ≡ word_of_deal East left → south ≡ word_of_deal South left → west ≡ word_of_deal West left → MeetsHands (north ∷ east ∷ south ∷ west ∷ []) (Err fault) → ⊥
  layout_is_there north east south west fault n e s w is =
      let words : north ∷ east ∷ south ∷ west ∷ [] ≡ words_of_deal left = cc in
      no_fault fault (subst (λ (hands : List ℕ). MeetsHands hands (Err fault)) words is)
