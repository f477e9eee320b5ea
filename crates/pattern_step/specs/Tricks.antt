-- One trick of pattern cards: who plays which card, who may win, and what is left.
use Rattle.std.specs.Prelude.{◌≡◌, ℕ, ◌-◌, ◌<◌, ◌≤◌, not, List, [], ◌∷◌, length, take, map, filter}
use Rattle.std.specs.Prelude.{Option, None, Some, ◌⊎◌, Contains, slice_index_or, slice_get, if◌then◌else◌}
use Rattle.std.specs.List.{list_any, enumerate_from}
use Rattle.cards.specs.declared.suits.Suit.{Suit}
use Rattle.cards.specs.declared.suits.Suit.TheVariants.{Spades}
use Rattle.cards.specs.declared.suits.Trump.{Trump}
use Rattle.cards.specs.declared.suits.Trump.TheVariants as trump
use Rattle.cards.specs.declared.seats.Seat.{Seat}
use Rattle.cards.specs.Seats.{seat_in_place, place_of}
use Rattle.patterns.specs.Shapes.{Shape, SuitShape, suit_of, len_of}
use Rattle.pattern_step.specs.declared.pat_cards.PatCard.{PatCard}
use Rattle.pattern_step.specs.declared.pat_cards.PatCard.TheVariants.{Top, Low}
use Rattle.pattern_step.specs.PatCards.{suit_of_card, is_of_suit, is_top, IsLegal}

-- the card that was played first, second, third or last (where none was, it does not matter which this is)
abbrev pub played_in_place : List PatCard → ℕ → PatCard
played_in_place cards place = slice_index_or cards place (Top Spades 0)

-- the card that the seat played
abbrev pub played_by : Seat → List PatCard → Seat → PatCard
played_by leader cards seat = played_in_place cards (place_of leader seat)

-- the suit led, after these first cards of a trick
abbrev pub suit_led_by : List PatCard → Option Suit
suit_led_by [] = None
suit_led_by (first ∷ cards) = Some (suit_of_card first)

-- the four cards are legal in turn, clockwise from the leader
abbrev pub AreLegalInTurn : Shape → Seat → List PatCard → Type 0
AreLegalInTurn shape leader cards =
    (place : ℕ) → place < 4
    → IsLegal shape (seat_in_place leader place) (suit_led_by (take place cards)) (played_in_place cards place)

-- the suit of the first card of four
abbrev pub suit_of_lead : List PatCard → Suit
suit_of_lead cards = suit_of_card (played_in_place cards 0)

-- the suit that decides who wins: trump if a trump was played, else the suit led (Laws 44E and 44F)
abbrev pub winning_suit : Trump → List PatCard → Suit
winning_suit trump.Nt cards = suit_of_lead cards
winning_suit (trump.Suit suit) cards = if list_any (is_of_suit suit) cards then suit else suit_of_lead cards

-- the owner of the highest top that was played of the suit
pub record OwnsHighest (shape : Shape) (cards : List PatCard) (suit : Suit) (seat : Seat) : Type 0 where
  pub place : ℕ
  pub played : Contains cards (Top suit place)
  pub least : (other : ℕ) → Contains cards (Top suit other) → place ≤ other
  pub owner : slice_get (suit_of shape suit).owners place ≡ Some seat

-- no top of the suit was played, and the seat played a low card of it
pub record PlayedLow (leader : Seat) (cards : List PatCard) (suit : Suit) (seat : Seat) : Type 0 where
  pub no_top : (other : ℕ) → Contains cards (Top suit other) → ⊥
  pub low : played_by leader cards seat ≡ Low suit

-- Who may win. If a top of the winning suit was played, the owner of the one with the least place wins. Else every
-- seat that played a low card of that suit may win.
abbrev pub MayWin : Shape → Trump → Seat → List PatCard → Seat → Type 0
MayWin shape trump leader cards seat =
    OwnsHighest shape cards (winning_suit trump cards) seat ⊎ PlayedLow leader cards (winning_suit trump cards) seat

-- the owners in the places whose tops were not played, in their order
abbrev pub owners_left : List PatCard → Suit → List Seat → List Seat
owners_left cards suit owners =
    map (λ entry. entry.1) (filter (λ entry. not (list_any (is_top suit entry.0) cards)) (enumerate_from 0 owners))

-- the seat's length in the suit, less one where its card was of that suit
abbrev pub len_left : SuitShape → Seat → List PatCard → Suit → Seat → ℕ
len_left suit_shape leader cards suit seat =
    if is_of_suit suit (played_by leader cards seat) then len_of suit_shape seat - 1 else len_of suit_shape seat

-- what is left of one suit
pub record IsLeftOf (before : SuitShape) (leader : Seat) (cards : List PatCard) (suit : Suit) (left : SuitShape)
    : Type 0 where
  pub four_seats : length left.lens ≡ 4
  pub lens : (seat : Seat) → len_of left seat ≡ len_left before leader cards suit seat
  pub owners : left.owners ≡ owners_left cards suit before.owners

-- What is left of a pattern: each player's length in the suit played goes down by one, and the tops that were played
-- are taken out of the owners.
abbrev pub IsLeft : Shape → Seat → List PatCard → Shape → Type 0
IsLeft shape leader cards left = (suit : Suit) → IsLeftOf (suit_of shape suit) leader cards suit (suit_of left suit)
