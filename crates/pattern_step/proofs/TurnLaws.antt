-- Who plays in which place of a trick.
use Rattle.std.proofs.Common.{◌≡◌, ℕ, zero, suc, ◌<◌, List, [], ◌∷◌, length, take, None, Some, ◌↔◌, refl, arith}
use Rattle.cards.specs.declared.suits.Suit.{Suit}
use Rattle.cards.specs.declared.seats.Seat.{Seat}
use Rattle.cards.specs.declared.seats.Seat.TheVariants.{North, East, South, West}
use Rattle.cards.specs.Seats.{next_of, seat_in_place, place_of}
use Rattle.patterns.specs.Shapes.{Shape}
use Rattle.pattern_step.specs.declared.pat_cards.PatCard.{PatCard}
use Rattle.pattern_step.specs.PatCards.{IsLegal}
use Rattle.pattern_step.specs.Tricks.{played_in_place, suit_led_by, suit_of_lead, AreLegalInTurn}

pub place_of-lt : (leader seat : Seat) → place_of leader seat < 4
place_of-lt leader seat = omega arith

-- the seat in a seat's place is that seat
pub seat_in_place-place_of : (leader seat : Seat) → seat_in_place leader (place_of leader seat) ≡ seat
seat_in_place-place_of North North = refl
seat_in_place-place_of North East = refl
seat_in_place-place_of North South = refl
seat_in_place-place_of North West = refl
seat_in_place-place_of East North = refl
seat_in_place-place_of East East = refl
seat_in_place-place_of East South = refl
seat_in_place-place_of East West = refl
seat_in_place-place_of South North = refl
seat_in_place-place_of South East = refl
seat_in_place-place_of South South = refl
seat_in_place-place_of South West = refl
seat_in_place-place_of West North = refl
seat_in_place-place_of West East = refl
seat_in_place-place_of West South = refl
seat_in_place-place_of West West = refl

-- and the place of the seat in a place is that place
pub place_of-seat_in_place : (leader : Seat) (place : ℕ) → place < 4 → place_of leader (seat_in_place leader place) ≡ place
place_of-seat_in_place North zero h = refl
place_of-seat_in_place North (suc zero) h = refl
place_of-seat_in_place North (suc (suc zero)) h = refl
place_of-seat_in_place North (suc (suc (suc zero))) h = refl
place_of-seat_in_place East zero h = refl
place_of-seat_in_place East (suc zero) h = refl
place_of-seat_in_place East (suc (suc zero)) h = refl
place_of-seat_in_place East (suc (suc (suc zero))) h = refl
place_of-seat_in_place South zero h = refl
place_of-seat_in_place South (suc zero) h = refl
place_of-seat_in_place South (suc (suc zero)) h = refl
place_of-seat_in_place South (suc (suc (suc zero))) h = refl
place_of-seat_in_place West zero h = refl
place_of-seat_in_place West (suc zero) h = refl
place_of-seat_in_place West (suc (suc zero)) h = refl
place_of-seat_in_place West (suc (suc (suc zero))) h = refl
place_of-seat_in_place leader (suc (suc (suc (suc place)))) h = absurd (omega arith)

-- the suit led in the places after the first
pub suit_led_by-take : (cards : List PatCard) (place : ℕ) → length cards ≡ 4 → suit_led_by (take (suc place) cards) ≡ Some (suit_of_lead cards)
suit_led_by-take [] place four = absurd (omega (arith, four))
suit_led_by-take (card ∷ cards) place four = refl

-- a card of a trick is legal where this suit was led
abbrev LegalAt : Shape → Seat → Suit → List PatCard → ℕ → Type 0
LegalAt shape seat led cards place = IsLegal shape seat (Some led) (played_in_place cards place)

-- four cards are legal in turn where the first may be led and the others may follow it
pub legal_in_turn : (shape : Shape) (leader second third fourth : Seat) (led : Suit) (cards : List PatCard) → length cards ≡ 4 →
    second ≡ next_of leader → third ≡ next_of second → fourth ≡ next_of third → led ≡ suit_of_lead cards →
    AreLegalInTurn shape leader cards
    ↔ (((IsLegal shape leader None (played_in_place cards 0) × LegalAt shape second led cards 1) × LegalAt shape third led cards 2) × LegalAt shape fourth led cards 3)
legal_in_turn shape leader second third fourth led cards four is_second is_third is_fourth is_led =
    rw (is_fourth, is_third, is_second, is_led) (
      (λ legal. (((legal 0 (omega arith), later 0 (legal 1 (omega arith))), later 1 (legal 2 (omega arith))), later 2 (legal 3 (omega arith)))),
      λ all place less. each all place less,
    )
  where
    later : (place : ℕ) → IsLegal shape (seat_in_place leader (suc place)) (suit_led_by (take (suc place) cards)) (played_in_place cards (suc place)) →
        LegalAt shape (seat_in_place leader (suc place)) (suit_of_lead cards) cards (suc place)
    later place legal = rw (suit_led_by-take cards place four) at legal

    each : ((IsLegal shape leader None (played_in_place cards 0) × LegalAt shape (next_of leader) (suit_of_lead cards) cards 1) × LegalAt shape (next_of (next_of leader)) (suit_of_lead cards) cards 2) × LegalAt shape (next_of (next_of (next_of leader))) (suit_of_lead cards) cards 3 →
        (place : ℕ) → place < 4 → IsLegal shape (seat_in_place leader place) (suit_led_by (take place cards)) (played_in_place cards place)
    each all zero less = all.0.0.0
    each all (suc zero) less = rw (suit_led_by-take cards 0 four) all.0.0.1
    each all (suc (suc zero)) less = rw (suit_led_by-take cards 1 four) all.0.1
    each all (suc (suc (suc zero))) less = rw (suit_led_by-take cards 2 four) all.1
    each all (suc (suc (suc (suc place)))) less = absurd (omega arith)
