-- Places of entries.
use Rattle.std.proofs.Common.{◌≡◌, ℕ, zero, suc, ◌/◌, ◌^◌, ◌<◌, Bool, true, false, length, List, Some, refl, sym, ◌∙◌, ap, arith}
use Rattle.std.specs.List.{find}
use Rattle.cards.specs.declared.seats.Seat.{Seat}
use Rattle.cards.specs.declared.seats.Seat.TheVariants.{North, East, South, West}
use Rattle.cards.specs.declared.suits.Suit.TheVariants.{Spades, Hearts, Diamonds, Clubs}
use Rattle.cards.specs.declared.suits.Trump.{Trump}
use Rattle.cards.specs.declared.suits.Trump.TheVariants.{Nt, Suit}
use Rattle.lease_book.specs.declared.entries.Entry.{Entry}
use Rattle.lease_book.specs.declared.events.Grant.{Grant}
use Rattle.lease_book.specs.declared.events.Event.{Event}
use Rattle.lease_book.specs.declared.slots.Slot.{Slot}
use Rattle.lease_book.specs.Entries.{seat_place, trump_place, contract_place, place_of}
use Rattle.lease_book.specs.Histories.{Terms, is_numbered}
use Rattle.lease_book.specs.Keeping.{IsKept}
use Rattle.lease_book.proofs.HeldLaws.{find_among}

pub same_bool : (a b : Bool) → (a ≡ true → b ≡ true) → (b ≡ true → a ≡ true) → a ≡ b
same_bool true true f g = refl
same_bool true false f g = sym (f refl)
same_bool false true f g = g refl
same_bool false false f g = refl

pub seat_below : (seat : Seat) → seat_place seat < 4
seat_below North = omega arith
seat_below East = omega arith
seat_below South = omega arith
seat_below West = omega arith

pub trump_below : (trump : Trump) → trump_place trump < 5
trump_below Nt = omega arith
trump_below (Suit Spades) = omega arith
trump_below (Suit Hearts) = omega arith
trump_below (Suit Diamonds) = omega arith
trump_below (Suit Clubs) = omega arith

pub contract_below : (seat : Seat) (trump : Trump) → contract_place seat trump < 20
contract_below seat trump = omega (arith, seat_below seat, trump_below trump)

pub board_of : (entry : Entry) → place_of entry / 20 ≡ entry.board
board_of entry = omega (arith, contract_below entry.declarer entry.trump)

pub same_declarer : (one other : Seat) → seat_place one ≡ seat_place other → one ≡ other
same_declarer North North e = refl
same_declarer South South e = refl
same_declarer East East e = refl
same_declarer West West e = refl
same_declarer North South e = absurd (omega (arith, e))
same_declarer North East e = absurd (omega (arith, e))
same_declarer North West e = absurd (omega (arith, e))
same_declarer South North e = absurd (omega (arith, e))
same_declarer South East e = absurd (omega (arith, e))
same_declarer South West e = absurd (omega (arith, e))
same_declarer East North e = absurd (omega (arith, e))
same_declarer East South e = absurd (omega (arith, e))
same_declarer East West e = absurd (omega (arith, e))
same_declarer West North e = absurd (omega (arith, e))
same_declarer West South e = absurd (omega (arith, e))
same_declarer West East e = absurd (omega (arith, e))

trump_in : ℕ → Trump
trump_in zero = Nt
trump_in (suc zero) = Suit Spades
trump_in (suc (suc zero)) = Suit Hearts
trump_in (suc (suc (suc zero))) = Suit Diamonds
trump_in (suc (suc (suc (suc n)))) = Suit Clubs

trump_again : (trump : Trump) → trump_in (trump_place trump) ≡ trump
unfolding trump_in
trump_again Nt = refl
trump_again (Suit Spades) = refl
trump_again (Suit Hearts) = refl
trump_again (Suit Diamonds) = refl
trump_again (Suit Clubs) = refl

pub same_trump : (one other : Trump) → trump_place one ≡ trump_place other → one ≡ other
same_trump one other e = sym (trump_again one) ∙ ap trump_in e ∙ trump_again other

pub same_contract : (seat other : Seat) (trump another : Trump) → contract_place seat trump ≡ contract_place other another → (seat ≡ other) × (trump ≡ another)
same_contract seat other trump another e = (
  same_declarer seat other (omega (arith, e, seat_below seat, seat_below other, trump_below trump, trump_below another)),
  same_trump trump another (omega (arith, e, seat_below seat, seat_below other, trump_below trump, trump_below another)),
)

pub same_entry : (one other : Entry) → place_of one ≡ place_of other → one ≡ other
same_entry one other e =
    let below = contract_below one.declarer one.trump in
    let other_below = contract_below other.declarer other.trump in
    let board : one.board ≡ other.board = omega (arith, e, below, other_below) in
    let contract = same_contract one.declarer other.declarer one.trump other.trump (omega (arith, e, below, other_below)) in
    ap (λ b. record { board = b; declarer = one.declarer; trump = one.trump }) board
    ∙ ap (λ s. record { board = other.board; declarer = s; trump = one.trump }) contract.0
    ∙ ap (λ t. record { board = other.board; declarer = other.declarer; trump = t }) contract.1

-- the place of a lease that was given
pub own_place : (terms : Terms) (events : List Event) (leases : List Grant) (slots : List Slot) → IsKept terms events leases slots → (lease : ℕ) (own : Grant) → find (is_numbered lease) leases ≡ Some own → place_of own.entry < length slots
own_place terms events leases slots kept lease own given = kept.there own (find_among (is_numbered lease) leases own given).0

pub small_board : (terms : Terms) (events : List Event) (leases : List Grant) (slots : List Slot) → IsKept terms events leases slots → (entry : Entry) → place_of entry < length slots → entry.board < 2 ^ 32
small_board terms events leases slots kept entry l = omega (arith, kept.few_boards, kept.sized, contract_below entry.declarer entry.trump)
