-- Legal play (Law 44A, 44C and 44D).
use Rattle.std.specs.Prelude.{◌≡◌, ℕ, ◌*◌, ◌<◌, List, [], ◌∷◌, ◌++◌, length, Contains, Some}
use Rattle.cards.specs.declared.suits.Suit.{Suit}
use Rattle.cards.specs.declared.seats.Seat.{Seat}
use Rattle.cards.specs.declared.pack.Card.{Card}
use Rattle.cards.specs.Deal.{Deal, holder_of, size_of}
use Rattle.play_rules.specs.History.{Opening, turn_after, suit_led}

-- the card was dealt to the seat and has not been played
pub record StillHolds (deal : Deal) (history : List Card) (seat : Seat) (card : Card) : Type 0 where
  pub dealt : holder_of deal card ≡ Some seat
  pub unplayed : Contains history card → ⊥

-- the seat whose turn it is after a history
abbrev pub seat_to_play : Opening → List Card → Seat
seat_to_play opening history = turn_after opening.trump opening.leader history

-- the seat to play still holds a card of the suit
abbrev pub CanFollow : Opening → List Card → Suit → Type 0
CanFollow opening history suit =
    (card : Card) × StillHolds opening.deal history (seat_to_play opening history) card × (card.suit ≡ suit)

-- The card may be played after the history: the seat to play still holds it, and it is of the suit led if that seat
-- still holds a card of that suit.
pub record CanPlay (opening : Opening) (history : List Card) (card : Card) : Type 0 where
  pub held : StillHolds opening.deal history (seat_to_play opening history) card
  pub follows : (led : Suit) → suit_led history ≡ Some led → CanFollow opening history led → card.suit ≡ led

-- each of these cards, played in turn after the history, may be played
abbrev pub IsLegalAfter : Opening → List Card → List Card → Type 0
IsLegalAfter opening history [] = Unit {0}
IsLegalAfter opening history (card ∷ cards) =
    CanPlay opening history card × IsLegalAfter opening (history ++ card ∷ []) cards

-- a legal history of the opening
abbrev pub IsLegalHistory : Opening → List Card → Type 0
IsLegalHistory opening history = IsLegalAfter opening [] history

-- how many cards there are to play in all
abbrev pub cards_in_play : Opening → ℕ
cards_in_play opening = 4 * size_of opening.deal

-- some card is still to be played
abbrev pub IsUnfinished : Opening → List Card → Type 0
IsUnfinished opening history = length history < cards_in_play opening

-- a play: a legal history of all the cards
pub record IsPlay (opening : Opening) (history : List Card) : Type 0 where
  pub legal : IsLegalHistory opening history
  pub whole : length history ≡ cards_in_play opening
