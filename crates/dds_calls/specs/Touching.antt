-- Cards that touch.
use Rattle.std.specs.Prelude.{◌≡◌, List, Contains}
use Rattle.cards.specs.declared.seats.Seat.{Seat}
use Rattle.cards.specs.declared.pack.Card.{Card}
use Rattle.cards.specs.Deal.{Deal}
use Rattle.card_values.specs.declared.values.CardValue.{CardValue}
use Rattle.card_values.specs.CardValues.{cards_of}
use Rattle.dds_calls.specs.Lines.{IsClearBetween}

-- The cards are of one suit, and no card between them is another seat's. The deal is that of the beginning of the
-- trick, so the cards of the trick still count.
pub record Touch (deal : Deal) (player : Seat) (one other : Card) : Type 0 where
  pub suit : one.suit ≡ other.suit
  pub above : IsClearBetween deal player one.suit one.rank other.rank
  pub below : IsClearBetween deal player one.suit other.rank one.rank

-- any two of the cards touch
abbrev pub AllTouch : Deal → Seat → List Card → Type 0
AllTouch deal player cards =
    (one other : Card) → Contains cards one → Contains cards other → Touch deal player one other

-- two of the cards don't touch
pub record SomeApart (deal : Deal) (player : Seat) (cards : List Card) : Type 0 where
  pub one : Card
  pub other : Card
  pub has_one : Contains cards one
  pub has_other : Contains cards other
  pub apart : Touch deal player one other → ⊥

-- the card touches one that has a value
pub record TouchesValue (deal : Deal) (player : Seat) (values : List CardValue) (card : Card) : Type 0 where
  pub value : CardValue
  pub listed : Contains values value
  pub touch : Touch deal player value.card card

-- each of the cards that touches one that has a value has a value itself
abbrev pub AreWhole : Deal → Seat → List CardValue → List Card → Type 0
AreWhole deal player values cards =
    (card : Card) → Contains cards card → TouchesValue deal player values card → Contains (cards_of values) card

-- a card has no value, and touches one that has
pub record LackCard (deal : Deal) (player : Seat) (values : List CardValue) (cards : List Card) : Type 0 where
  pub card : Card
  pub listed : Contains cards card
  pub touches : TouchesValue deal player values card
  pub lacks : Contains (cards_of values) card → ⊥
