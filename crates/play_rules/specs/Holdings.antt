-- The cards that a player may play to a trick in progress, of the cards that are left.
use Rattle.std.specs.Prelude.{◌≡◌, ◌≢◌, ℕ, ◌<◌, ⊤, List, Contains, Option, None, Some}
use Rattle.cards.specs.declared.suits.Suit.{Suit}
use Rattle.cards.specs.declared.seats.Seat.{Seat}
use Rattle.cards.specs.declared.pack.Card.{Card}
use Rattle.cards.specs.Deal.{Deal, holder_of}
use Rattle.play_rules.specs.History.{suit_of_first}
use Rattle.play_rules.specs.Position.{AreInOrder, listed_place}

-- the player has a card of the suit left
abbrev pub HoldsSuit : Deal → Seat → Suit → Type 0
HoldsSuit left player suit = (card : Card) × (holder_of left card ≡ Some player) × (card.suit ≡ suit)

-- the card is the player's, and of the suit led if the player has a card of that suit
pub record MayBePlayed (left : Deal) (player : Seat) (trick : List Card) (card : Card) : Type 0 where
  pub held : holder_of left card ≡ Some player
  pub follows : (led : Suit) → suit_of_first trick ≡ Some led → HoldsSuit left player led → card.suit ≡ led

-- the suit was led, and the player has a card of it
pub record IsToBeFollowed (left : Deal) (player : Seat) (trick : List Card) (suit : Suit) : Type 0 where
  pub led : suit_of_first trick ≡ Some suit
  pub held : HoldsSuit left player suit

-- nothing was led, or the player has no card of the suit led
abbrev pub IsFree : Deal → Seat → List Card → Type 0
IsFree left player trick = (led : Suit) → suit_of_first trick ≡ Some led → HoldsSuit left player led → ⊥

-- the suit that the player has to follow, or none
abbrev pub IsSuitToFollow : Deal → Seat → List Card → Option Suit → Type 0
IsSuitToFollow left player trick None = IsFree left player trick
IsSuitToFollow left player trick (Some suit) = IsToBeFollowed left player trick suit

-- the card is of the suit, if there is one
abbrev pub Follows : Option Suit → Card → Type 0
Follows None card = ⊤
Follows (Some suit) card = card.suit ≡ suit

-- the card is of another suit than the one that has to be followed
pub record Revokes (left : Deal) (player : Seat) (trick : List Card) (card : Card) : Type 0 where
  pub suit : Suit
  pub to_be_followed : IsToBeFollowed left player trick suit
  pub other : card.suit ≢ suit

-- these are the cards that may be played among the first `place` cards of the list of all cards
pub record AreListedTo (left : Deal) (player : Seat) (trick : List Card) (place : ℕ) (cards : List Card) : Type 0 where
  pub legal : (card : Card) → Contains cards card → MayBePlayed left player trick card
  pub before : (card : Card) → Contains cards card → listed_place card < place
  pub all : (card : Card) → listed_place card < place → MayBePlayed left player trick card → Contains cards card
  pub in_order : AreInOrder cards
