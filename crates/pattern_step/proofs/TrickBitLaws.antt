-- What a trick takes from the suits, in two numbers of sixteen bits a suit.
use Rattle.std.proofs.Common.{◌≡◌, ◌≢◌, ℕ, ◌+◌, ◌-◌, ◌*◌, ◌/◌, ◌%◌, ◌^◌, ◌<◌, ◌≤◌, min, Bool, true, false, ◌&&◌, ◌||◌, eqb, cond, List, [], ◌∷◌, length, refl, sym, ◌∙◌, ap, inl, inr, arith}
use Rattle.std.specs.List.{list_any}
use Rattle.std.specs.Prelude.{bit_and, bit_or, ◌⊎◌, slice_index}
use Rattle.std.proofs.lemmas.Bool.{eq-eqb, ne_eqb, cases_eq}
use Rattle.std.proofs.lemmas.Nat.{and_mask, shr-shr}
use Rattle.cards.specs.declared.suits.Suit.{Suit}
use Rattle.cards.specs.declared.suits.Suit.TheVariants.{Spades, Hearts, Diamonds, Clubs}
use Rattle.cards.specs.declared.seats.Seat.{Seat}
use Rattle.cards.specs.declared.seats.Seat.TheVariants.{North, East, South, West}
use Rattle.cards.specs.Pack.{suit_number}
use Rattle.cards.specs.Seats.{seat_number, next_of}
use Rattle.patterns.specs.Shapes.{SuitShape, Shape, suit_of, len_of, IsPattern}
use Rattle.patterns.specs.Words.{suit_in}
use Rattle.patterns.specs.Removals.{is_among, owners_but}
use Rattle.pattern_step.specs.declared.pat_cards.PatCard.{PatCard}
use Rattle.pattern_step.specs.declared.pat_cards.PatCard.TheVariants.{Top}
use Rattle.pattern_step.specs.PatCards.{suit_of_card, is_of_suit, is_top}
use Rattle.pattern_step.specs.Tricks.{played_by, played_in_place, IsLeftOf}
use Rattle.pattern_step.specs.TrickBits.{card_lens, one_of, trick_lens}
use Rattle.pattern_step.proofs.PatCardLaws.{owners-le-13}
use Rattle.pattern_step.proofs.PlaceLaws.{is_among-or, is_among-one, owners_left-but}

-- a bit after a shift
is_among-shr : (bits from place : ℕ) → is_among (bits / 2 ^ from) place ≡ is_among bits (from + place)
is_among-shr bits from place = ap (λ n. eqb (n % 2) 1) (shr-shr bits from place)

small_suit : (suit : Suit) → suit_number suit < 4
small_suit Spades = omega arith
small_suit Hearts = omega arith
small_suit Diamonds = omega arith
small_suit Clubs = omega arith

-- the bit of a top, of sixteen for each suit, where places that no pattern has share the last
pub top_bit : (card : PatCard) (of suit : Suit) (n p at place : ℕ) → card ≡ Top of p → n ≡ suit_number of → at ≡ min p 15 → place < 13 →
    is_among (1 * 2 ^ (16 * n + at) % 2 ^ 64 / 2 ^ (16 * suit_number suit)) place ≡ is_top suit place card
top_bit card of suit n p at place is number at_is near =
    let k = suit_number suit in
    is_among-shr (1 * 2 ^ (16 * n + at) % 2 ^ 64) (16 * k) place
    ∙ (is_among-one (16 * n + at) (16 * k + place) (omega (arith, number, at_is, small_suit of))
    ∙ (same (cases_eq n k) (cases_eq p place) ∙ (ap (λ m. eqb m k && eqb p place) number ∙ ap (is_top suit place) (sym is))))
  where
    same : (n ≡ suit_number suit) ⊎ (n ≢ suit_number suit) → (p ≡ place) ⊎ (p ≢ place) → eqb (16 * n + at) (16 * suit_number suit + place) ≡ (eqb n (suit_number suit) && eqb p place)
    same (inl e) (inl f) = rw (eq-eqb (16 * n + at) (16 * suit_number suit + place) (omega (arith, e, f, at_is, near)), eq-eqb n (suit_number suit) e, eq-eqb p place f) refl
    same (inl e) (inr f) = rw (ne_eqb (16 * n + at) (16 * suit_number suit + place) (λ g. f (omega (arith, e, g, at_is, near))), eq-eqb n (suit_number suit) e, ne_eqb p place f) refl
    same (inr e) g = rw (ne_eqb (16 * n + at) (16 * suit_number suit + place) (λ h. e (omega (arith, h, at_is, near))), ne_eqb n (suit_number suit) e) refl

-- the bits of four cards
pub any_of_four : (a b c d : ℕ) (cards : List PatCard) (suit : Suit) (place : ℕ) → length cards ≡ 4 →
    is_among (a / 2 ^ (16 * suit_number suit)) place ≡ is_top suit place (played_in_place cards 0) →
    is_among (b / 2 ^ (16 * suit_number suit)) place ≡ is_top suit place (played_in_place cards 1) →
    is_among (c / 2 ^ (16 * suit_number suit)) place ≡ is_top suit place (played_in_place cards 2) →
    is_among (d / 2 ^ (16 * suit_number suit)) place ≡ is_top suit place (played_in_place cards 3) →
    is_among (bit_or (bit_or (bit_or a b) c) d / 2 ^ (16 * suit_number suit)) place ≡ list_any (is_top suit place) cards
any_of_four a b c d cards suit place four ha hb hc hd =
    let at = 16 * suit_number suit + place in
    let back = λ (n : ℕ). sym (is_among-shr n (16 * suit_number suit) place) in
    is_among-shr (bit_or (bit_or (bit_or a b) c) d) (16 * suit_number suit) place
    ∙ (is_among-or (bit_or (bit_or a b) c) d at
    ∙ (ap (λ t. t || is_among d at) (is_among-or (bit_or a b) c at)
    ∙ (ap (λ t. (t || is_among c at) || is_among d at) (is_among-or a b at)
    ∙ (any (is_among a at) (is_among b at) (is_among c at) (is_among d at) cards four (back a ∙ ha) (back b ∙ hb) (back c ∙ hc) (back d ∙ hd)))))
  where
    or_four : (x y z t : Bool) → (((x || y) || z) || t) ≡ (x || (y || (z || (t || false))))
    or_four true y z t = refl
    or_four false true z t = refl
    or_four false false true t = refl
    or_four false false false true = refl
    or_four false false false false = refl

    any : (x y z t : Bool) (cards : List PatCard) → length cards ≡ 4 → x ≡ is_top suit place (played_in_place cards 0) → y ≡ is_top suit place (played_in_place cards 1) →
        z ≡ is_top suit place (played_in_place cards 2) → t ≡ is_top suit place (played_in_place cards 3) → (((x || y) || z) || t) ≡ list_any (is_top suit place) cards
    any x y z t [] four hx hy hz ht = absurd (omega arith)
    any x y z t (_ ∷ []) four hx hy hz ht = absurd (omega arith)
    any x y z t (_ ∷ _ ∷ []) four hx hy hz ht = absurd (omega arith)
    any x y z t (_ ∷ _ ∷ _ ∷ []) four hx hy hz ht = absurd (omega arith)
    any x y z t (_ ∷ _ ∷ _ ∷ _ ∷ []) four hx hy hz ht = or_four x y z t ∙ rw (hx, hy, hz, ht) refl
    any x y z t (_ ∷ _ ∷ _ ∷ _ ∷ _ ∷ cards) four hx hy hz ht = absurd (omega arith)

-- a card's length, suit by suit
in_suits : (seat : Seat) (of : Suit) →
    2 ^ (16 * suit_number of + 4 * seat_number seat)
    ≡ 2 ^ (4 * seat_number seat) * (cond (eqb (suit_number of) 0) 1 0 + 2 ^ 16 * cond (eqb (suit_number of) 1) 1 0 + 2 ^ 32 * cond (eqb (suit_number of) 2) 1 0 + 2 ^ 48 * cond (eqb (suit_number of) 3) 1 0)
in_suits North Spades = refl
in_suits North Hearts = refl
in_suits North Diamonds = refl
in_suits North Clubs = refl
in_suits East Spades = refl
in_suits East Hearts = refl
in_suits East Diamonds = refl
in_suits East Clubs = refl
in_suits South Spades = refl
in_suits South Hearts = refl
in_suits South Diamonds = refl
in_suits South Clubs = refl
in_suits West Spades = refl
in_suits West Hearts = refl
in_suits West Diamonds = refl
in_suits West Clubs = refl

one_of-le : (suit : Suit) (card : PatCard) → one_of suit card ≤ 1
one_of-le suit card = small (is_of_suit suit card)
  where
    small : (b : Bool) → cond b 1 0 ≤ 1
    small true = omega arith
    small false = omega arith

-- what the cards of the four seats take from a suit
abbrev seats_lens : PatCard → PatCard → PatCard → PatCard → Suit → ℕ
seats_lens n e s w suit = one_of suit n + 2 ^ 4 * one_of suit e + 2 ^ 8 * one_of suit s + 2 ^ 12 * one_of suit w

seats_lens-lt : (n e s w : PatCard) (suit : Suit) → seats_lens n e s w suit < 2 ^ 16
seats_lens-lt n e s w suit = omega (arith, one_of-le suit n, one_of-le suit e, one_of-le suit s, one_of-le suit w)

by_suits : (n e s w : PatCard) → card_lens North n + card_lens East e + card_lens South s + card_lens West w
    ≡ seats_lens n e s w Spades + 2 ^ 16 * seats_lens n e s w Hearts + 2 ^ 32 * seats_lens n e s w Diamonds + 2 ^ 48 * seats_lens n e s w Clubs
by_suits n e s w =
    omega (arith, in_suits North (suit_of_card n), in_suits East (suit_of_card e), in_suits South (suit_of_card s), in_suits West (suit_of_card w))

sixteen_bits : (a b c d : ℕ) (suit : Suit) (of : Suit → ℕ) → of Spades ≡ a → of Hearts ≡ b → of Diamonds ≡ c → of Clubs ≡ d → a < 2 ^ 16 → b < 2 ^ 16 → c < 2 ^ 16 → d < 2 ^ 16 →
    (a + 2 ^ 16 * b + 2 ^ 32 * c + 2 ^ 48 * d) / 2 ^ (16 * suit_number suit) % 2 ^ 16 ≡ of suit
sixteen_bits a b c d Spades of ea eb ec ed ha hb hc hd = omega arith
sixteen_bits a b c d Hearts of ea eb ec ed ha hb hc hd = omega arith
sixteen_bits a b c d Diamonds of ea eb ec ed ha hb hc hd = omega arith
sixteen_bits a b c d Clubs of ea eb ec ed ha hb hc hd = omega arith

seats_in_suit : (n e s w : PatCard) (suit : Suit) →
    (card_lens North n + card_lens East e + card_lens South s + card_lens West w) / 2 ^ (16 * suit_number suit) % 2 ^ 16 ≡ seats_lens n e s w suit
seats_in_suit n e s w suit =
    ap (λ m. m / 2 ^ (16 * suit_number suit) % 2 ^ 16) (by_suits n e s w)
    ∙ sixteen_bits _ _ _ _ suit (seats_lens n e s w) refl refl refl refl
    (seats_lens-lt n e s w Spades) (seats_lens-lt n e s w Hearts) (seats_lens-lt n e s w Diamonds) (seats_lens-lt n e s w Clubs)

-- the seats in the order of play
pub in_order : (leader : Seat) (cards : List PatCard) (suit : Suit) →
    (card_lens leader (played_in_place cards 0) + card_lens (next_of leader) (played_in_place cards 1) + card_lens (next_of (next_of leader)) (played_in_place cards 2)
    + card_lens (next_of (next_of (next_of leader))) (played_in_place cards 3)) / 2 ^ (16 * suit_number suit) % 2 ^ 16 ≡ trick_lens leader cards suit
in_order leader cards suit =
    ap (λ n. n / 2 ^ (16 * suit_number suit) % 2 ^ 16) (turned leader)
    ∙ seats_in_suit (played_by leader cards North) (played_by leader cards East) (played_by leader cards South) (played_by leader cards West) suit
  where
    turned : (leader : Seat) →
        card_lens leader (played_in_place cards 0) + card_lens (next_of leader) (played_in_place cards 1) + card_lens (next_of (next_of leader)) (played_in_place cards 2)
        + card_lens (next_of (next_of (next_of leader))) (played_in_place cards 3)
        ≡ card_lens North (played_by leader cards North) + card_lens East (played_by leader cards East) + card_lens South (played_by leader cards South) + card_lens West (played_by leader cards West)
    turned North = refl
    turned East = omega arith
    turned South = omega arith
    turned West = omega arith

pub played_in_order : (leader second third fourth : Seat) (a b c d : ℕ) (cards : List PatCard) → second ≡ next_of leader → third ≡ next_of second → fourth ≡ next_of third →
    a ≡ card_lens leader (played_in_place cards 0) → b ≡ card_lens second (played_in_place cards 1) → c ≡ card_lens third (played_in_place cards 2) → d ≡ card_lens fourth (played_in_place cards 3) →
    (suit : Suit) → (a + b + c + d) / 2 ^ (16 * suit_number suit) % 2 ^ 16 ≡ trick_lens leader cards suit
played_in_order leader second third fourth a b c d cards is_second is_third is_fourth ea eb ec ed suit =
    let eb' = eb ∙ ap (λ s. card_lens s (played_in_place cards 1)) is_second in
    let third' = is_third ∙ ap next_of is_second in
    let ec' = ec ∙ ap (λ s. card_lens s (played_in_place cards 2)) third' in
    let ed' = ed ∙ ap (λ s. card_lens s (played_in_place cards 3)) (is_fourth ∙ ap next_of third') in
    let sum : a + b + c + d ≡ card_lens leader (played_in_place cards 0) + card_lens (next_of leader) (played_in_place cards 1) + card_lens (next_of (next_of leader)) (played_in_place cards 2)
    + card_lens (next_of (next_of (next_of leader))) (played_in_place cards 3) = cc in
    ap (λ n. n / 2 ^ (16 * suit_number suit) % 2 ^ 16) sum ∙ in_order leader cards suit

-- the lengths of a suit, as the code takes them out
pub suit_lens : (lens n : ℕ) (suit : Suit) → n ≡ suit_number suit → bit_and (lens / 2 ^ (16 * n)) 65535 ≡ lens / 2 ^ (16 * suit_number suit) % 2 ^ 16
suit_lens lens n suit is = and_mask (lens / 2 ^ (16 * n)) 16 ∙ ap (λ k. lens / 2 ^ (16 * k) % 2 ^ 16) is

-- a seat's length of those that a trick takes
trick_len : (leader : Seat) (cards : List PatCard) (suit : Suit) (seat : Seat) → len_of (suit_in (trick_lens leader cards suit)) seat ≡ one_of suit (played_by leader cards seat)
trick_len leader cards suit seat =
    fields (one_of suit (played_by leader cards North)) (one_of suit (played_by leader cards East)) (one_of suit (played_by leader cards South)) (one_of suit (played_by leader cards West))
    (one_of-le suit (played_by leader cards North)) (one_of-le suit (played_by leader cards East)) (one_of-le suit (played_by leader cards South)) (one_of-le suit (played_by leader cards West)) seat
    ∙ told seat
  where
    fields : (n e s w : ℕ) → n ≤ 1 → e ≤ 1 → s ≤ 1 → w ≤ 1 → (seat : Seat) → len_of (suit_in (n + 2 ^ 4 * e + 2 ^ 8 * s + 2 ^ 12 * w)) seat ≡ slice_index (n ∷ e ∷ s ∷ w ∷ []) (seat_number seat)
    fields n e s w hn he hs hw North = omega arith
    fields n e s w hn he hs hw East = omega arith
    fields n e s w hn he hs hw South = omega arith
    fields n e s w hn he hs hw West = omega arith

    told : (seat : Seat) → slice_index
        (one_of suit (played_by leader cards North) ∷ one_of suit (played_by leader cards East) ∷ one_of suit (played_by leader cards South) ∷ one_of suit (played_by leader cards West) ∷ [])
        (seat_number seat) ≡ one_of suit (played_by leader cards seat)
    told North = refl
    told East = refl
    told South = refl
    told West = refl

-- what is left of a suit
pub is_left_of : (shape : Shape) (leader : Seat) (cards : List PatCard) (suit : Suit) (held left : SuitShape) (lens places : ℕ) → IsPattern shape → held ≡ suit_of shape suit →
    lens ≡ trick_lens leader cards suit → ((place : ℕ) → place < 13 → is_among places place ≡ list_any (is_top suit place) cards) →
    length left.lens ≡ 4 → ((seat : Seat) → len_of left seat ≡ len_of held seat - len_of (suit_in lens) seat) → left.owners ≡ owners_but places held.owners →
    IsLeftOf (suit_of shape suit) leader cards suit left
is_left_of shape leader cards suit held left lens places pattern told are among four each owners = record {
  four_seats = four;
  lens = λ seat.
      each seat
      ∙ (ap (λ (s : SuitShape). len_of s seat - len_of (suit_in lens) seat) told
      ∙ (ap (λ n. len_of (suit_of shape suit) seat - n) (ap (λ n. len_of (suit_in n) seat) are ∙ trick_len leader cards suit seat)
      ∙ less (is_of_suit suit (played_by leader cards seat)) (len_of (suit_of shape suit) seat)));
  owners = owners ∙ (ap (λ (s : SuitShape). owners_but places s.owners) told ∙ owners_left-but cards suit places (suit_of shape suit).owners (owners-le-13 shape pattern suit) among);
}
  where
    less : (b : Bool) (n : ℕ) → n - cond b 1 0 ≡ cond b (n - 1) n
    less true n = refl
    less false n = omega arith
