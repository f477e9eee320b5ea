-- A table in play, and the answers of its calls.
use Rattle.std.specs.Prelude.{ℕ, ◌+◌, ◌*◌, ◌-◌, ◌≤◌, ◌<◌, nat_lt, if◌then◌else◌}
use Rattle.std.specs.Prelude.{List, ◌∷◌, [], ◌++◌, length, Contains, Option, None, Some}
use Rattle.cards.specs.declared.seats.Seat.{Seat}
use Rattle.cards.specs.declared.pack.Card.{Card}
use Rattle.cards.specs.Pack.{suit_number, rank_number}
use Rattle.cards.specs.Deal.{IsLayout}
use Rattle.play_rules.specs.History.{Opening}
use Rattle.play_rules.specs.Legal.{CanPlay, IsLegalHistory, cards_in_play, seat_to_play}

-- the opening, and the cards played since
pub record Position : Type 0 where
  pub opening : Opening
  pub history : List Card

-- every table has a legal history of a layout
pub record IsReached (position : Position) : Type 0 where
  pub layout : IsLayout position.opening.deal
  pub legal : IsLegalHistory position.opening position.history
  pub within : length position.history ≤ cards_in_play position.opening

-- the seat to play, if a card is still to be played
abbrev pub turn_of : Position → Option Seat
turn_of position =
    if nat_lt (length position.history) (cards_in_play position.opening)
    then Some (seat_to_play position.opening position.history)
    else None

-- the place of a card in the list of all cards, by suit and with ranks falling
abbrev pub listed_place : Card → ℕ
listed_place card = 13 * suit_number card.suit + (12 - rank_number card.rank)

-- each card comes before the cards of later suits, and before lower cards of its suit
abbrev pub AreInOrder : List Card → Type 0
AreInOrder [] = Unit {0}
AreInOrder (first ∷ rest) =
    ((card : Card) → Contains rest card → listed_place first < listed_place card) × AreInOrder rest

-- these are the cards that may be played, by suit and with ranks falling, each once
pub record AreLegalCards (position : Position) (cards : List Card) : Type 0 where
  pub legal : (card : Card) → Contains cards card → CanPlay position.opening position.history card
  pub all : (card : Card) → CanPlay position.opening position.history card → Contains cards card
  pub in_order : AreInOrder cards

-- the position after one more card
abbrev pub with_card : Position → Card → Position
with_card position card = record position { history = position.history ++ card ∷ [] }
