-- A suit completed: what it is, that it is one of a rest, and that the layouts match it that matched before.
use Rattle.std.proofs.Common.{◌≡◌, ◌≢◌, ℕ, zero, suc, ◌+◌, ◌*◌, ◌≤◌, Bool, true, false, cond, List, [], ◌∷◌, ◌++◌, length, replicate, refl, sym, ◌∙◌, ap, arith, ◌⊎◌, inl, inr, append_assoc}
use Rattle.std.proofs.lemmas.Bool.{cases_eq}
use Rattle.std.proofs.lemmas.List.{append-nil}
use Rattle.std.proofs.lemmas.List.Sums.{sum_by-append}
use Rattle.std.proofs.lemmas.List.Folds.{sum_by-replicate}
use Rattle.cards.specs.declared.suits.Suit.TheVariants.{Spades, Hearts, Diamonds, Clubs}
use Rattle.cards.specs.declared.seats.Seat.{Seat}
use Rattle.cards.specs.declared.seats.Seat.TheVariants.{North, East, South, West}
use Rattle.cards.specs.Deal.{Deal}
use Rattle.cards.specs.Seats.{is_same_seat}
use Rattle.patterns.specs.Shapes.{SuitShape, Shape, suit_of, len_of, tops_of, suit_size, IsShape, CoversSuit, Covers}
use Rattle.patterns.specs.Holders.{holders_of, count_in, MatchesSuit, Matches}
use Rattle.patterns.specs.Parts.{HasItsOwners}
use Rattle.patterns.specs.Completions.{lows_of, lone_holder, completed_suit, completed}
use Rattle.patterns.proofs.SeatLaws.{for_each_suit, for_each_seat, same_from_is_same}
use Rattle.patterns.proofs.HolderLaws.{count_in-cons, counts_add_up}

-- the low cards of the four seats, and the seats that hold them where one seat alone has some
abbrev pub all_lows : SuitShape → ℕ
all_lows suit = lows_of suit North + lows_of suit East + lows_of suit South + lows_of suit West

abbrev pub lone_in : SuitShape → List Seat
lone_in suit = lone_holder (lows_of suit North) (lows_of suit East) (lows_of suit South) (lows_of suit West)

-- ---- the lone holder
-- a seat that has all the cards is the lone holder
north_alone : (n e s w : ℕ) → n + e + s + w ≡ n → lone_holder n e s w ≡ replicate n North
north_alone n zero zero zero h = refl
north_alone n (suc e) s w h = absurd (omega arith)
north_alone n zero (suc s) w h = absurd (omega arith)
north_alone n zero zero (suc w) h = absurd (omega arith)

east_alone : (n e s w : ℕ) → n + e + s + w ≡ e → lone_holder n e s w ≡ replicate e East
east_alone zero zero zero zero h = refl
east_alone zero (suc e) zero zero h = refl
east_alone (suc n) e s w h = absurd (omega arith)
east_alone zero e (suc s) w h = absurd (omega arith)
east_alone zero e zero (suc w) h = absurd (omega arith)

south_alone : (n e s w : ℕ) → n + e + s + w ≡ s → lone_holder n e s w ≡ replicate s South
south_alone zero zero zero zero h = refl
south_alone zero zero (suc s) zero h = refl
south_alone (suc n) e s w h = absurd (omega arith)
south_alone zero (suc e) s w h = absurd (omega arith)
south_alone zero zero s (suc w) h = absurd (omega arith)

west_alone : (n e s w : ℕ) → n + e + s + w ≡ w → lone_holder n e s w ≡ replicate w West
west_alone zero zero zero zero h = refl
west_alone zero zero zero (suc w) h = refl
west_alone (suc n) e s w h = absurd (omega arith)
west_alone zero (suc e) s w h = absurd (omega arith)
west_alone zero zero (suc s) w h = absurd (omega arith)

pub one_alone : (suit : SuitShape) (seat : Seat) → all_lows suit ≡ lows_of suit seat → lone_in suit ≡ replicate (lows_of suit seat) seat
one_alone suit North h = north_alone _ _ _ _ h
one_alone suit East h = east_alone _ _ _ _ h
one_alone suit South h = south_alone _ _ _ _ h
one_alone suit West h = west_alone _ _ _ _ h

-- where no seat has all of them, there is none
none_of_four : (n e s w : ℕ) → n + e + s + w ≢ n → n + e + s + w ≢ e → n + e + s + w ≢ s → n + e + s + w ≢ w → lone_holder n e s w ≡ []
none_of_four n zero zero zero hn he hs hw = absurd (hn (omega arith))
none_of_four zero (suc e) zero zero hn he hs hw = absurd (he (omega arith))
none_of_four zero zero (suc s) zero hn he hs hw = absurd (hs (omega arith))
none_of_four zero zero zero (suc w) hn he hs hw = absurd (hw (omega arith))
none_of_four zero zero (suc s) (suc w) hn he hs hw = refl
none_of_four zero (suc e) zero (suc w) hn he hs hw = refl
none_of_four zero (suc e) (suc s) zero hn he hs hw = refl
none_of_four zero (suc e) (suc s) (suc w) hn he hs hw = refl
none_of_four (suc n) zero zero (suc w) hn he hs hw = refl
none_of_four (suc n) zero (suc s) zero hn he hs hw = refl
none_of_four (suc n) zero (suc s) (suc w) hn he hs hw = refl
none_of_four (suc n) (suc e) zero zero hn he hs hw = refl
none_of_four (suc n) (suc e) zero (suc w) hn he hs hw = refl
none_of_four (suc n) (suc e) (suc s) zero hn he hs hw = refl
none_of_four (suc n) (suc e) (suc s) (suc w) hn he hs hw = refl

pub none_alone : (suit : SuitShape) → ((seat : Seat) → all_lows suit ≢ lows_of suit seat) → lone_in suit ≡ []
none_alone suit none = none_of_four _ _ _ _ (none North) (none East) (none South) (none West)

-- one of the two
pub is_alone : (suit : SuitShape) → ((seat : Seat) × (all_lows suit ≡ lows_of suit seat)) ⊎ ((seat : Seat) → all_lows suit ≢ lows_of suit seat)
is_alone suit = elim (cases_eq (all_lows suit) (lows_of suit North)) [
  | inl h ↦ inl (North, h)
  | inr n ↦ elim (cases_eq (all_lows suit) (lows_of suit East)) [
    | inl h ↦ inl (East, h)
    | inr e ↦ elim (cases_eq (all_lows suit) (lows_of suit South)) [
      | inl h ↦ inl (South, h)
      | inr s ↦ elim (cases_eq (all_lows suit) (lows_of suit West)) [
        | inl h ↦ inl (West, h)
        | inr w ↦ inr (for_each_seat (λ seat. all_lows suit ≢ lows_of suit seat) n e s w)
      ]
    ]
  ]
]

-- ---- a rest completed is a rest
-- a seat's part of so many cards of one seat
count_in-replicate : (cards : ℕ) (holder seat : Seat) → count_in (replicate cards holder) seat ≡ cards * cond (is_same_seat seat holder) 1 0
count_in-replicate cards holder seat = sum_by-replicate (λ x. cond (is_same_seat seat x) 1 0) cards holder

pub count_in-append : (one other : List Seat) (seat : Seat) → count_in (one ++ other) seat ≡ count_in one seat + count_in other seat
count_in-append one other seat = sum_by-append (λ x. cond (is_same_seat seat x) 1 0) one other

-- no seat gets more than its low cards
lone_fits : (suit : SuitShape) (seat : Seat) → count_in (lone_in suit) seat ≤ lows_of suit seat
lone_fits suit seat = elim (is_alone suit) [
  | inl (holder, all) ↦ rw (one_alone suit holder all) (one holder (is_same_seat seat holder) refl)
  | inr none ↦ rw (none_alone suit none) (omega arith)
]
  where
    one : (holder : Seat) (b : Bool) → is_same_seat seat holder ≡ b → count_in (replicate (lows_of suit holder) holder) seat ≤ lows_of suit seat
    one holder true e =
        let same = ap (lows_of suit) (same_from_is_same seat holder e) in
        let here = ap (λ (b : Bool). let n : ℕ = lows_of suit holder * cond b 1 0 in n) e in
        omega (arith, count_in-replicate (lows_of suit holder) holder seat, here, same)
    one holder false e =
        let here = ap (λ (b : Bool). let n : ℕ = lows_of suit holder * cond b 1 0 in n) e in
        omega (arith, count_in-replicate (lows_of suit holder) holder seat, here)

pub owners_completed : (suit : SuitShape) → HasItsOwners suit → (seat : Seat) → tops_of (completed_suit suit) seat ≤ len_of suit seat
owners_completed suit owned seat = omega (arith, count_in-append suit.owners (lone_in suit) seat, lone_fits suit seat, owned seat)

pub IsShape-completed : (fewest most : ℕ) (shape : Shape) → IsShape fewest most shape → IsShape fewest most (completed shape)
IsShape-completed fewest most shape is = record {
  four_seats = for_each_suit (λ suit. length (suit_of (completed shape) suit).lens ≡ 4) (is.four_seats Spades) (is.four_seats Hearts) (is.four_seats Diamonds) (is.four_seats Clubs);
  suits = for_each_suit (λ suit. suit_size (suit_of (completed shape) suit) ≤ 13) (is.suits Spades) (is.suits Hearts) (is.suits Diamonds) (is.suits Clubs);
  hands = is.hands;
  some_cards = is.some_cards;
  not_over = is.not_over;
  owners = for_each_suit (λ suit. HasItsOwners (suit_of (completed shape) suit))
      (owners_completed shape.spades (is.owners Spades)) (owners_completed shape.hearts (is.owners Hearts))
      (owners_completed shape.diamonds (is.owners Diamonds)) (owners_completed shape.clubs (is.owners Clubs));
}

-- ---- layouts
-- a seat that holds all of some cards
at_most : (holders : List Seat) (seat : Seat) → count_in holders seat ≤ length holders
at_most holders North = omega (arith, counts_add_up holders)
at_most holders East = omega (arith, counts_add_up holders)
at_most holders South = omega (arith, counts_add_up holders)
at_most holders West = omega (arith, counts_add_up holders)

all_of_one : (holders : List Seat) (seat : Seat) → count_in holders seat ≡ length holders → holders ≡ replicate (length holders) seat
all_of_one [] seat all = refl
all_of_one (holder ∷ holders) seat all = one (is_same_seat seat holder) refl (all_of_one holders seat)
  where
    one : (b : Bool) → is_same_seat seat holder ≡ b → (count_in holders seat ≡ length holders → holders ≡ replicate (length holders) seat) → holder ∷ holders ≡ replicate (length (holder ∷ holders)) seat
    one true e rest =
        let first : holder ≡ seat = sym (same_from_is_same seat holder e) in
        let here = ap (λ (b : Bool). let n : ℕ = cond b 1 0 in n) e in
        ap (λ s. s ∷ holders) first ∙ ap (λ xs. seat ∷ xs) (rest (omega (arith, all, here, count_in-cons holder holders seat)))
    one false e rest =
        let here = ap (λ (b : Bool). let n : ℕ = cond b 1 0 in n) e in
        absurd (omega (arith, all, here, count_in-cons holder holders seat, at_most holders seat))

pub MatchesSuit-completed : (suit : SuitShape) (holders : List Seat) → MatchesSuit suit holders → MatchesSuit (completed_suit suit) holders
MatchesSuit-completed suit holders matches = record {
  lens = matches.lens;
  owners = elim (is_alone suit) [
    | inl (seat, all) ↦ ([], begins ∙ (ap (λ xs. suit.owners ++ xs) (lone seat all) ∙ sym (append-nil (suit.owners ++ lone_in suit))))
    | inr none ↦ (more, begins ∙ ap (λ xs. xs ++ more) (sym (append-nil suit.owners) ∙ ap (λ xs. suit.owners ++ xs) (sym (none_alone suit none))))
  ];
}
  where
    more : List Seat
    more = matches.owners.0

    begins : holders ≡ suit.owners ++ more
    begins = matches.owners.1

    -- the cards below the owners' are the low cards
    lows : (seat : Seat) → lows_of suit seat ≡ count_in more seat
    lows seat =
        let all : count_in holders seat ≡ count_in (suit.owners ++ more) seat = ap (λ xs. count_in xs seat) begins in
        omega (arith, matches.lens seat, all, count_in-append suit.owners more seat)

    lone : (seat : Seat) → all_lows suit ≡ lows_of suit seat → more ≡ lone_in suit
    lone seat all =
        let so_many : length more ≡ lows_of suit seat = omega (arith, lows North, lows East, lows South, lows West, counts_add_up more, all) in
        all_of_one more seat (omega (arith, lows seat, so_many)) ∙ (ap (λ n. replicate n seat) so_many ∙ sym (one_alone suit seat all))

pub Matches-completed : (shape : Shape) (deal : Deal) → Matches shape deal → Matches (completed shape) deal
Matches-completed shape deal matches = for_each_suit (λ suit. MatchesSuit (suit_of (completed shape) suit) (holders_of deal suit))
    (MatchesSuit-completed shape.spades (holders_of deal Spades) (matches Spades)) (MatchesSuit-completed shape.hearts (holders_of deal Hearts) (matches Hearts))
    (MatchesSuit-completed shape.diamonds (holders_of deal Diamonds) (matches Diamonds)) (MatchesSuit-completed shape.clubs (holders_of deal Clubs) (matches Clubs))

-- ---- covering
-- what covers a suit covers it completed
CoversSuit-completed : (suit rest : SuitShape) → CoversSuit suit rest → CoversSuit suit (completed_suit rest)
CoversSuit-completed suit rest covers = record {
  lens = covers.lens;
  owners = (
    covers.owners.0 ++ lone_in rest,
    ap (λ xs. xs ++ lone_in rest) covers.owners.1 ∙ append_assoc suit.owners covers.owners.0 (lone_in rest),
  );
}

pub Covers-completed : (pattern rest : Shape) → Covers pattern rest → Covers pattern (completed rest)
Covers-completed pattern rest covers = for_each_suit (λ suit. CoversSuit (suit_of pattern suit) (suit_of (completed rest) suit))
    (CoversSuit-completed pattern.spades rest.spades (covers Spades)) (CoversSuit-completed pattern.hearts rest.hearts (covers Hearts))
    (CoversSuit-completed pattern.diamonds rest.diamonds (covers Diamonds)) (CoversSuit-completed pattern.clubs rest.clubs (covers Clubs))
