-- What is left of a pattern after a trick is a rest.
use Rattle.std.proofs.Common.{◌≡◌, ℕ, zero, suc, ◌+◌, ◌-◌, ◌<◌, ◌≤◌, Bool, true, false, cond, not, ◌&&◌, eqb, List, [], ◌∷◌, length, get_or, map, filter, Some, refl, sym, ◌∙◌, ap, subst, arith, count_by, zero-add}
use Rattle.std.specs.Prelude.{slice_get, slice_index}
use Rattle.std.specs.List.{list_any, enumerate_from}
use Rattle.std.proofs.lemmas.Bool.{eqb-true, eq-eqb}
use Rattle.std.proofs.lemmas.List.Sums.{sum_by-cons}
use Rattle.std.proofs.lemmas.List.Recursion.{or_at}
use Rattle.std.proofs.lemmas.List.{same_lists, get_or_default}
use Rattle.cards.specs.declared.suits.Suit.{Suit}
use Rattle.cards.specs.declared.suits.Suit.TheVariants.{Spades, Hearts, Diamonds, Clubs}
use Rattle.cards.specs.declared.seats.Seat.{Seat}
use Rattle.cards.specs.declared.seats.Seat.TheVariants.{North, East, South, West}
use Rattle.cards.proofs.PackLaws.{same_from_suit_numbers}
use Rattle.cards.specs.Seats.{is_same_seat, seat_number, place_of}
use Rattle.patterns.specs.Shapes.{Shape, suit_of, len_of, tops_of, suit_size, hand_size, IsPattern, IsRest}
use Rattle.patterns.proofs.EqualityLaws.{same_suits, same_shapes}
use Rattle.patterns.proofs.SeatLaws.{is_same_seat_self}
use Rattle.pattern_step.specs.declared.pat_cards.PatCard.{PatCard}
use Rattle.pattern_step.specs.declared.pat_cards.PatCard.TheVariants.{Top, Low}
use Rattle.pattern_step.specs.PatCards.{HasCard, is_of_suit, is_top}
use Rattle.pattern_step.proofs.PatCardLaws.{slice_get-at, slice_get-within, top_counts}
use Rattle.pattern_step.proofs.TurnLaws.{place_of-lt, seat_in_place-place_of}
use Rattle.pattern_step.specs.Tricks.{played_by, AreLegalInTurn, owners_left, IsLeft}

-- the items in the places that are kept, where the first place has this number
unfoldable pub left_from : {X : Type 0} → (ℕ → Bool) → ℕ → List X → List X
left_from keep a [] = []
left_from keep a (x ∷ xs) = cond (keep a) (x ∷ left_from keep (a + 1) xs) (left_from keep (a + 1) xs)

pub left_from-is : {X : Type 0} (keep : ℕ → Bool) (a : ℕ) (xs : List X) → map (λ (entry : ℕ × X). entry.1) (filter (λ (entry : ℕ × X). keep entry.0) (enumerate_from a xs)) ≡ left_from keep a xs
unfolding left_from
left_from-is keep a [] = refl
left_from-is keep a (x ∷ xs) = go (keep a) (left_from-is keep (a + 1) xs)
  where
    go : (b : Bool) → map (λ entry. entry.1) (filter (λ entry. keep entry.0) (enumerate_from (a + 1) xs)) ≡ left_from keep (a + 1) xs →
        map (λ entry. entry.1) (cond b ((a, x) ∷ filter (λ entry. keep entry.0) (enumerate_from (a + 1) xs)) (filter (λ entry. keep entry.0) (enumerate_from (a + 1) xs))) ≡ cond b (x ∷ left_from keep (a + 1) xs) (left_from keep (a + 1) xs)
    go true e = ap (λ ys. x ∷ ys) e
    go false e = e

-- no more of the kept items pass a test than of all
count_left-le : {X : Type 0} (keep : ℕ → Bool) (p : X → Bool) (a : ℕ) (xs : List X) → count_by p (left_from keep a xs) ≤ count_by p xs
unfolding left_from
count_left-le keep p a [] = omega arith
count_left-le keep p a (x ∷ xs) = go (keep a) (count_left-le keep p (a + 1) xs)
  where
    go : (b : Bool) → count_by p (left_from keep (a + 1) xs) ≤ count_by p xs → count_by p (cond b (x ∷ left_from keep (a + 1) xs) (left_from keep (a + 1) xs)) ≤ count_by p (x ∷ xs)
    go true e = omega (arith, e, sum_by-cons (λ y. cond (p y) 1 0) x (left_from keep (a + 1) xs), sum_by-cons (λ y. cond (p y) 1 0) x xs)
    go false e = omega (arith, e, sum_by-cons (λ y. cond (p y) 1 0) x xs)

-- fewer, where one that passes is not kept
count_left-lt : {X : Type 0} (keep : ℕ → Bool) (p : X → Bool) (a : ℕ) (xs : List X) (n : ℕ) (d : X) → n < length xs → keep (a + n) ≡ false → p (get_or xs n d) ≡ true → count_by p (left_from keep a xs) + 1 ≤ count_by p xs
unfolding left_from
count_left-lt keep p a [] n d less out passes = absurd (omega arith)
count_left-lt keep p a (x ∷ xs) zero d less out passes =
    let e : a + 0 ≡ a = omega arith in
    let out' : keep a ≡ false = ap keep (sym e) ∙ out in
    let rest : count_by p (left_from keep a (x ∷ xs)) ≡ count_by p (left_from keep (a + 1) xs) = ap (λ b. count_by p (cond b (x ∷ left_from keep (a + 1) xs) (left_from keep (a + 1) xs))) out' in
    let one = ap (λ (b : Bool). let n : ℕ = cond b 1 0 in n) passes in
    omega (arith, rest, one, count_left-le keep p (a + 1) xs, sum_by-cons (λ y. cond (p y) 1 0) x xs)
count_left-lt keep p a (x ∷ xs) (suc n) d less out passes =
    let e : a + 1 + n ≡ a + suc n = omega arith in
    go (keep a) (count_left-lt keep p (a + 1) xs n d (omega arith) (ap keep e ∙ out) passes)
  where
    go : (b : Bool) → count_by p (left_from keep (a + 1) xs) + 1 ≤ count_by p xs → count_by p (cond b (x ∷ left_from keep (a + 1) xs) (left_from keep (a + 1) xs)) + 1 ≤ count_by p (x ∷ xs)
    go true e = omega (arith, e, sum_by-cons (λ y. cond (p y) 1 0) x (left_from keep (a + 1) xs), sum_by-cons (λ y. cond (p y) 1 0) x xs)
    go false e = omega (arith, e, sum_by-cons (λ y. cond (p y) 1 0) x xs)

-- the places whose tops were not played
abbrev pub kept : List PatCard → Suit → ℕ → Bool
kept cards suit place = not (list_any (is_top suit place) cards)

pub owners_left-is : (cards : List PatCard) (suit : Suit) (owners : List Seat) → owners_left cards suit owners ≡ left_from (kept cards suit) 0 owners
owners_left-is cards suit owners = left_from-is (kept cards suit) 0 owners

-- each seat has the card that it played
pub played_is_held : (shape : Shape) (leader : Seat) (cards : List PatCard) → AreLegalInTurn shape leader cards → (seat : Seat) → HasCard shape seat (played_by leader cards seat)
played_is_held shape leader cards legal seat =
    subst (λ s. HasCard shape s (played_by leader cards seat)) (seat_in_place-place_of leader seat) (legal (place_of leader seat) (place_of-lt leader seat)).has

-- a test that is true of the seat's card is true of some card
pub some_card : (leader : Seat) (cards : List PatCard) (seat : Seat) (test : PatCard → Bool) → length cards ≡ 4 → test (played_by leader cards seat) ≡ true → list_any test cards ≡ true
some_card leader cards seat test four h =
    or_at (list_any test) test refl (λ _ _. refl) cards (place_of leader seat) (Top Spades 0) (omega (arith, place_of-lt leader seat)) h

-- a suit of which a seat has a pattern card is one of which it has cards
pub held_suit : (shape : Shape) → IsPattern shape → (seat : Seat) (card : PatCard) (suit : Suit) → HasCard shape seat card → is_of_suit suit card ≡ true → 1 ≤ len_of (suit_of shape suit) seat
held_suit shape pattern seat (Top of place) suit held same =
    let e : of ≡ suit = same_from_suit_numbers of suit (eqb-true _ _ same) in
    let held' : slice_get (suit_of shape suit).owners place ≡ Some seat = ap (λ s. slice_get (suit_of shape s).owners place) (sym e) ∙ held in
    omega (arith, top_counts shape pattern seat suit place (slice_get-within (suit_of shape suit).owners place seat held') held', pattern.owners suit seat)
held_suit shape pattern seat (Low of) suit held same =
    let e : of ≡ suit = same_from_suit_numbers of suit (eqb-true _ _ same) in
    let held' : tops_of (suit_of shape suit) seat < len_of (suit_of shape suit) seat = subst (λ s. tops_of (suit_of shape s) seat < len_of (suit_of shape s) seat) e held in
    omega (arith, held')

-- a seat keeps no more tops than cards
owners_fit : (shape : Shape) → IsPattern shape → (seat : Seat) (card : PatCard) (cards : List PatCard) (suit : Suit) → HasCard shape seat card → ((test : PatCard → Bool) → test card ≡ true → list_any test cards ≡ true) →
    count_by (is_same_seat seat) (owners_left cards suit (suit_of shape suit).owners) ≤ cond (is_of_suit suit card) (len_of (suit_of shape suit) seat - 1) (len_of (suit_of shape suit) seat)
owners_fit shape pattern seat card cards suit held some =
    rw (owners_left-is cards suit (suit_of shape suit).owners) (go (is_of_suit suit card) refl)
  where
    owners : List Seat
    owners = (suit_of shape suit).owners

    by_card : (card : PatCard) → HasCard shape seat card → ((test : PatCard → Bool) → test card ≡ true → list_any test cards ≡ true) → is_of_suit suit card ≡ true →
        count_by (is_same_seat seat) (left_from (kept cards suit) 0 (suit_of shape suit).owners) + 1 ≤ len_of (suit_of shape suit) seat
    by_card (Top of place) held some same =
        let e : of ≡ suit = same_from_suit_numbers of suit (eqb-true _ _ same) in
        let held' : slice_get (suit_of shape suit).owners place ≡ Some seat = ap (λ s. slice_get (suit_of shape s).owners place) (sym e) ∙ held in
        let within = slice_get-within (suit_of shape suit).owners place seat held' in
        let is_it : is_top suit place (Top of place) ≡ true = ap (λ b. b && eqb place place) same ∙ eq-eqb place place refl in
        let out : kept cards suit (0 + place) ≡ false = ap (λ k. kept cards suit k) (zero-add place) ∙ ap not (some (is_top suit place) is_it) in
        let here : get_or (suit_of shape suit).owners place seat ≡ seat = let x = sym (slice_get-at (suit_of shape suit).owners place seat within) ∙ held' in cc in
        let passes : is_same_seat seat (get_or (suit_of shape suit).owners place seat) ≡ true = ap (is_same_seat seat) here ∙ is_same_seat_self seat in
        omega (arith, count_left-lt (kept cards suit) (is_same_seat seat) 0 (suit_of shape suit).owners place seat within out passes, pattern.owners suit seat)
    by_card (Low of) held some same =
        let e : of ≡ suit = same_from_suit_numbers of suit (eqb-true _ _ same) in
        let held' : tops_of (suit_of shape suit) seat < len_of (suit_of shape suit) seat = subst (λ s. tops_of (suit_of shape s) seat < len_of (suit_of shape s) seat) e held in
        omega (arith, held', count_left-le (kept cards suit) (is_same_seat seat) 0 (suit_of shape suit).owners)

    go : (b : Bool) → is_of_suit suit card ≡ b → count_by (is_same_seat seat) (left_from (kept cards suit) 0 (suit_of shape suit).owners) ≤ cond b (len_of (suit_of shape suit) seat - 1) (len_of (suit_of shape suit) seat)
    go true e = omega (arith, by_card card held some e)
    go false e = omega (arith, count_left-le (kept cards suit) (is_same_seat seat) 0 (suit_of shape suit).owners, pattern.owners suit seat)

-- the suit of a card is one of four, and the hand has one card less
one_less : (card : PatCard) (s h d c : ℕ) → (is_of_suit Spades card ≡ true → 1 ≤ s) → (is_of_suit Hearts card ≡ true → 1 ≤ h) → (is_of_suit Diamonds card ≡ true → 1 ≤ d) → (is_of_suit Clubs card ≡ true → 1 ≤ c) →
    cond (is_of_suit Spades card) (s - 1) s + cond (is_of_suit Hearts card) (h - 1) h + cond (is_of_suit Diamonds card) (d - 1) d + cond (is_of_suit Clubs card) (c - 1) c + 1 ≡ s + h + d + c
one_less (Top Spades place) s h d c hs hh hd hc = let x = hs refl in omega arith
one_less (Top Hearts place) s h d c hs hh hd hc = let x = hh refl in omega arith
one_less (Top Diamonds place) s h d c hs hh hd hc = let x = hd refl in omega arith
one_less (Top Clubs place) s h d c hs hh hd hc = let x = hc refl in omega arith
one_less (Low Spades) s h d c hs hh hd hc = let x = hs refl in omega arith
one_less (Low Hearts) s h d c hs hh hd hc = let x = hh refl in omega arith
one_less (Low Diamonds) s h d c hs hh hd hc = let x = hd refl in omega arith
one_less (Low Clubs) s h d c hs hh hd hc = let x = hc refl in omega arith

-- each hand has one card less
pub hand_size-left : (shape : Shape) (leader : Seat) (cards : List PatCard) (left : Shape) → IsPattern shape → AreLegalInTurn shape leader cards → IsLeft shape leader cards left → (seat : Seat) →
    hand_size left seat + 1 ≡ hand_size shape seat
hand_size-left shape leader cards left pattern legal is_left seat =
    let held = played_is_held shape leader cards legal seat in
    let card = played_by leader cards seat in
    let has = held_suit shape pattern seat card in
    let s = (is_left Spades).lens seat in
    let h = (is_left Hearts).lens seat in
    let d = (is_left Diamonds).lens seat in
    let c = (is_left Clubs).lens seat in
    sum_same _ _ _ _ _ _ _ _ s h d c
    ∙ one_less card (len_of shape.spades seat) (len_of shape.hearts seat) (len_of shape.diamonds seat) (len_of shape.clubs seat) (has Spades held) (has Hearts held) (has Diamonds held) (has Clubs held)
  where
    sum_same : (a b c d a' b' c' d' : ℕ) → a ≡ a' → b ≡ b' → c ≡ c' → d ≡ d' → a + b + c + d + 1 ≡ a' + b' + c' + d' + 1
    sum_same a b c d a' b' c' d' ea eb ec ed = omega arith

less_left : (test : Bool) (n : ℕ) → cond test (n - 1) n ≤ n
less_left true n = omega arith
less_left false n = omega arith

-- what is left after four legal cards is a rest
pub IsRest-left : (shape : Shape) (leader : Seat) (cards : List PatCard) (left : Shape) → length cards ≡ 4 → IsPattern shape → AreLegalInTurn shape leader cards → IsLeft shape leader cards left → IsRest left
IsRest-left shape leader cards left four pattern legal is_left =
    let hand = hand_size-left shape leader cards left pattern legal is_left in
    record {
      four_seats = λ suit. (is_left suit).four_seats;
      suits = suits;
      hands = λ seat. omega (arith, hand seat, hand North, pattern.hands seat);
      some_cards = omega arith;
      not_over = omega (arith, hand North, pattern.not_over);
      owners = owners;
    }
  where
    le : (suit : Suit) (seat : Seat) → len_of (suit_of left suit) seat ≤ len_of (suit_of shape suit) seat
    le suit seat = rw ((is_left suit).lens seat) (less_left (is_of_suit suit (played_by leader cards seat)) (len_of (suit_of shape suit) seat))

    suits : (suit : Suit) → suit_size (suit_of left suit) ≤ 13
    suits suit = omega (arith, le suit North, le suit East, le suit South, le suit West, pattern.suits suit)

    owners : (suit : Suit) (seat : Seat) → tops_of (suit_of left suit) seat ≤ len_of (suit_of left suit) seat
    owners suit seat =
        rw ((is_left suit).lens seat, (is_left suit).owners)
        (owners_fit shape pattern seat (played_by leader cards seat) cards suit (played_is_held shape leader cards legal seat) (λ test. some_card leader cards seat test four))

-- lengths that are the same seat by seat
same_lens : (one other : List ℕ) → length one ≡ 4 → length other ≡ 4 → ((seat : Seat) → slice_index one (seat_number seat) ≡ slice_index other (seat_number seat)) → one ≡ other
same_lens one other four four' same =
    same_lists one other (four ∙ sym four')
    (λ k d less. get_or_default one k d 0 less ∙ (each k (omega arith) ∙ sym (get_or_default other k d 0 (omega arith))))
  where
    each : (k : ℕ) → k < 4 → get_or one k 0 ≡ get_or other k 0
    each zero less = same North
    each (suc zero) less = same East
    each (suc (suc zero)) less = same South
    each (suc (suc (suc zero))) less = same West
    each (suc (suc (suc (suc k)))) less = absurd (omega arith)

-- four cards leave one rest at most
pub one_left : (shape : Shape) (leader : Seat) (cards : List PatCard) (one other : Shape) → IsLeft shape leader cards one → IsLeft shape leader cards other → one ≡ other
one_left shape leader cards one other is_one is_other = same_shapes one other (λ suit. same_suits _ _ (lens suit) ((is_one suit).owners ∙ sym (is_other suit).owners))
  where
    lens : (suit : Suit) → (suit_of one suit).lens ≡ (suit_of other suit).lens
    lens suit = same_lens _ _ (is_one suit).four_seats (is_other suit).four_seats (λ seat. (is_one suit).lens seat ∙ sym ((is_other suit).lens seat))
