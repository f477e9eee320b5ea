-- Seats and suits, one by one.
use Rattle.std.proofs.Common.{◌≡◌, Bool, true, false, refl, ◌↔◌, IsTrue, MatchBool, sym, ◌∙◌}
use Rattle.std.specs.Bool.{OnTrue}
use Rattle.std.proofs.lemmas.Bool.{false≢true}
use denote.Enum.Bare.{sameb}
use Rattle.cards.specs.contracts.seats.Seat.{the_type}
use Rattle.cards.specs.declared.suits.Suit.{Suit}
use Rattle.cards.specs.declared.suits.Suit.TheVariants.{Spades, Hearts, Diamonds, Clubs}
use Rattle.cards.specs.declared.seats.Seat.{Seat}
use Rattle.cards.specs.declared.seats.Seat.TheVariants.{North, East, South, West}
use Rattle.cards.specs.Seats.{is_same_seat}

-- what holds of each of the four seats
pub for_each_seat : (P : Seat → Type 0) → P North → P East → P South → P West → (seat : Seat) → P seat
for_each_seat P north east south west North = north
for_each_seat P north east south west East = east
for_each_seat P north east south west South = south
for_each_seat P north east south west West = west

-- what holds of each of the four suits
pub for_each_suit : (P : Suit → Type 0) → P Spades → P Hearts → P Diamonds → P Clubs → (suit : Suit) → P suit
for_each_suit P spades hearts diamonds clubs Spades = spades
for_each_suit P spades hearts diamonds clubs Hearts = hearts
for_each_suit P spades hearts diamonds clubs Diamonds = diamonds
for_each_suit P spades hearts diamonds clubs Clubs = clubs

pub is_same_seat_self : (seat : Seat) → is_same_seat seat seat ≡ true
is_same_seat_self North = refl
is_same_seat_self East = refl
is_same_seat_self South = refl
is_same_seat_self West = refl

pub same_from_is_same : (one other : Seat) → is_same_seat one other ≡ true → one ≡ other
same_from_is_same North North h = refl
same_from_is_same East East h = refl
same_from_is_same South South h = refl
same_from_is_same West West h = refl
same_from_is_same _ _ h = cc

-- the comparison that the code makes
pub same_seat_test : (one other : Seat) → sameb the_type one other ≡ is_same_seat other one
same_seat_test North North = refl
same_seat_test East East = refl
same_seat_test South South = refl
same_seat_test West West = refl
same_seat_test _ _ = refl

-- an answer that is true, and one that is false
pub told_true : {P : Type 0} → P → IsTrue true ↔ P
told_true p = (λ _. p, λ _. refl)

pub told_false : {P : Type 0} → ¬ P → IsTrue false ↔ P
told_false not_p = (λ h. absurd (false≢true h), λ p. absurd (not_p p))

-- what a test tells where it came out true
pub when_true : (P Q : Type 0) (test : Bool) → MatchBool test P Q → test ≡ true → P
when_true P Q true told h = told
when_true P Q false told h = absurd (false≢true h)

pub on_true : (P : Type 0) (test : Bool) → OnTrue test P → test ≡ true → P
on_true P true told h = told
on_true P false told h = absurd (false≢true h)

-- a fact that a false test stands for does not hold
pub not_told : {P : Type 0} {test : Bool} → IsTrue test ↔ P → test ≡ false → P → ⊥
not_told told h p = false≢true (sym h ∙ told.1 p)

-- what holds of all seats, and of all suits, as four facts
pub all_seats : (P : Seat → Type 0) → ((seat : Seat) → P seat) ↔ (((P North × P East) × P South) × P West)
all_seats P = (λ all. (((all North, all East), all South), all West), λ four. for_each_seat P four.0.0.0 four.0.0.1 four.0.1 four.1)

pub all_suits : (P : Suit → Type 0) → ((suit : Suit) → P suit) ↔ (((P Spades × P Hearts) × P Diamonds) × P Clubs)
all_suits P = (λ all. (((all Spades, all Hearts), all Diamonds), all Clubs), λ four. for_each_suit P four.0.0.0 four.0.0.1 four.0.1 four.1)

-- what a test tells of a fact that is the same as another
pub told_alike : {P Q : Type 0} {test : Bool} → IsTrue test ↔ P → Q ↔ P → IsTrue test ↔ Q
told_alike told alike = (λ h. alike.1 (told.0 h), λ q. told.1 (alike.0 q))

-- what `&&` tells, where its first part holds and where it does not
pub and_then : {P Q : Type 0} {one other both : Bool} → IsTrue one ↔ P → IsTrue other ↔ Q → one ≡ true → both ≡ other → IsTrue both ↔ (P × Q)
and_then first second holds is = (λ h. (first.0 holds, second.0 (sym is ∙ h)), λ h. is ∙ second.1 h.1)

pub and_else : {P Q : Type 0} {one both : Bool} → IsTrue one ↔ P → one ≡ false → both ≡ one → IsTrue both ↔ (P × Q)
and_else first fails is = (λ h. absurd (false≢true (sym fails ∙ (sym is ∙ h))), λ h. absurd (false≢true (sym fails ∙ first.1 h.0)))
