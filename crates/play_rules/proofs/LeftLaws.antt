-- What is left of a deal: who still holds what, and how many cards.
use Rattle.std.proofs.Common.{◌≡◌, ℕ, zero, suc, ◌+◌, ◌<◌, ◌≤◌, cond, List, [], ◌∷◌, ◌++◌, length, Contains, get_or, Option, None, Some, refl, sym, ◌∙◌, ap, arith, inl, inr, ◌⊎◌, length-set, get_or-set_same, get_or-set_other}
use Rattle.std.proofs.lemmas.Bool.{cases_eq, cases_lt}
use Rattle.std.proofs.lemmas.List.{get_or_past}
use Rattle.std.proofs.lemmas.List.Elements.{Contains-append_right}
use Rattle.std.proofs.lemmas.List.Sums.{sum_by-set}
use Rattle.cards.specs.declared.seats.Seat.{Seat}
use Rattle.cards.specs.declared.pack.Card.{Card}
use Rattle.cards.specs.Pack.{card_number}
use Rattle.cards.proofs.PackLaws.{card_number-lt, same_from_numbers}
use Rattle.cards.specs.Seats.{is_same_seat}
use Rattle.cards.specs.Deal.{Deal, holder_of, is_held_by, count_of}
use Rattle.play_rules.specs.Left.{without, left_of}
use Rattle.play_rules.specs.Legal.{StillHolds}
use Rattle.play_rules.specs.Laws.{LeavesTheUnplayed}

pub cases_card : (one other : Card) → (one ≡ other) ⊎ (one ≡ other → ⊥)
cases_card one other = elim (cases_eq (card_number one) (card_number other)) [ inl e ↦ inl (same_from_numbers one other e) | inr n ↦ inr (λ e. n (ap card_number e)) ]

pub length-without : (deal : Deal) (card : Card) → length (without deal card) ≡ length deal
unfolding without
length-without deal card = length-set deal (card_number card) None

pub holder_of-without_same : (deal : Deal) (card : Card) → holder_of (without deal card) card ≡ None
unfolding without
holder_of-without_same deal card =
    elim (cases_lt (card_number card) (length deal)) [
      | inl lt ↦ get_or-set_same deal (card_number card) None None lt
      | inr past ↦ get_or_past (without deal card) (card_number card) None (omega (arith, length-without deal card))
    ]

pub holder_of-without_other : (deal : Deal) (card other : Card) → (other ≡ card → ⊥) → holder_of (without deal card) other ≡ holder_of deal other
unfolding without
holder_of-without_other deal card other apart =
    get_or-set_other deal (card_number card) (card_number other) None None (λ e. apart (same_from_numbers other card e))

pub length-left_of : (deal : Deal) (history : List Card) → length (left_of deal history) ≡ length deal
unfolding left_of
length-left_of deal [] = refl
length-left_of deal (card ∷ cards) = length-left_of (without deal card) cards ∙ length-without deal card

pub left_of-append : (deal : Deal) (history more : List Card) → left_of deal (history ++ more) ≡ left_of (left_of deal history) more
unfolding left_of
left_of-append deal [] more = refl
left_of-append deal (card ∷ cards) more = left_of-append (without deal card) cards more

pub left_of-push : (deal : Deal) (history : List Card) (card : Card) → left_of deal (history ++ card ∷ []) ≡ without (left_of deal history) card
unfolding left_of
left_of-push deal history card = left_of-append deal history (card ∷ [])

None≢Some : (seat : Seat) → None ≡ Some seat → ⊥
None≢Some seat h = cc

-- a card that nobody holds stays so
None-left_of : (deal : Deal) (history : List Card) (card : Card) → holder_of deal card ≡ None → holder_of (left_of deal history) card ≡ None
unfolding left_of
None-left_of deal [] card h = h
None-left_of deal (first ∷ rest) card h =
    None-left_of (without deal first) rest card (elim (cases_card card first) [
      | inl e ↦ rw e (holder_of-without_same deal first)
      | inr n ↦ holder_of-without_other deal first card n ∙ h
    ])

pub left_of-played : (deal : Deal) (history : List Card) (card : Card) → Contains history card → holder_of (left_of deal history) card ≡ None
unfolding left_of
left_of-played deal [] card h = absurd (omega (arith, h.1))
left_of-played deal (first ∷ rest) card (zero, lt, e) = None-left_of (without deal first) rest card (rw (← e) (holder_of-without_same deal first))
left_of-played deal (first ∷ rest) card (suc k, lt, e) = left_of-played (without deal first) rest card (k, omega arith, e)

pub left_of-unplayed : (deal : Deal) (history : List Card) (card : Card) → (Contains history card → ⊥) → holder_of (left_of deal history) card ≡ holder_of deal card
unfolding left_of
left_of-unplayed deal [] card not = refl
left_of-unplayed deal (first ∷ rest) card not =
    left_of-unplayed (without deal first) rest card (λ h. not (Contains-append_right (first ∷ []) rest card h)) ∙ holder_of-without_other deal first card (λ e. not (0, omega arith, sym e))

pub leaves_the_unplayed : LeavesTheUnplayed
leaves_the_unplayed deal history card = (left_of-played deal history card, left_of-unplayed deal history card)

-- what is left shows who still holds a card
pub still_held : (deal : Deal) (history : List Card) (seat : Seat) (card : Card) → holder_of (left_of deal history) card ≡ Some seat → StillHolds deal history seat card
still_held deal history seat card h =
    let not : Contains history card → ⊥ = λ p. None≢Some seat (sym (left_of-played deal history card p) ∙ h) in
    record { dealt = sym (left_of-unplayed deal history card not) ∙ h; unplayed = not }

pub left_when_held : (deal : Deal) (history : List Card) (seat : Seat) (card : Card) → StillHolds deal history seat card → holder_of (left_of deal history) card ≡ Some seat
left_when_held deal history seat card h = left_of-unplayed deal history card h.unplayed ∙ h.dealt

-- a held card that goes is one of its holder's
pub count_of-without : (deal : Deal) (card : Card) (holder seat : Seat) → holder_of deal card ≡ Some holder → count_of (without deal card) seat + cond (is_same_seat seat holder) 1 0 ≡ count_of deal seat
unfolding without
count_of-without deal card holder seat held =
    let lt : card_number card < length deal = elim (cases_lt (card_number card) (length deal)) [
      | inl lt ↦ lt
      | inr past ↦ absurd (None≢Some holder (sym (get_or_past deal (card_number card) None past) ∙ held))
    ] in
    let sums = sum_by-set (λ o. cond (is_held_by seat o) 1 0) deal (card_number card) None None lt in
    let bit : Option Seat → ℕ = λ o. cond (is_held_by seat o) 1 0 in
    let was : bit (get_or deal (card_number card) None) ≡ bit (Some holder) = ap bit held in
    omega arith

count_of-without-le : (deal : Deal) (card : Card) (seat : Seat) → length deal ≡ 52 → count_of (without deal card) seat ≤ count_of deal seat
unfolding without
count_of-without-le deal card seat whole =
    let lt : card_number card < length deal = omega (arith, card_number-lt card) in
    let sums = sum_by-set (λ o. cond (is_held_by seat o) 1 0) deal (card_number card) None None lt in
    omega arith

pub count_of-left_of-le : (deal : Deal) (history : List Card) (seat : Seat) → length deal ≡ 52 → count_of (left_of deal history) seat ≤ count_of deal seat
unfolding left_of
count_of-left_of-le deal [] seat whole = omega arith
count_of-left_of-le deal (card ∷ cards) seat whole =
    omega (arith, count_of-left_of-le (without deal card) cards seat (length-without deal card ∙ whole), count_of-without-le deal card seat whole)
