-- The outcomes of an attempt to play a card.
use Rattle.std.specs.Prelude.{◌≡◌, ◌≢◌, length, Some, Result, Ok, Err}
use Rattle.cards.specs.declared.suits.Suit.{Suit}
use Rattle.cards.specs.declared.pack.Card.{Card}
use Rattle.play_rules.specs.declared.faults.PlayFault.{PlayFault}
use Rattle.play_rules.specs.declared.faults.PlayFault.TheVariants.{NotHeld, MustFollow, Over}
use Rattle.play_rules.specs.History.{suit_led}
use Rattle.play_rules.specs.Legal.{StillHolds, CanFollow, CanPlay, IsUnfinished, cards_in_play, seat_to_play}
use Rattle.play_rules.specs.Position.{Position}

-- the seat to play does not hold the card, or holds it no longer
abbrev pub LacksCard : Position → Card → Type 0
LacksCard position card =
    StillHolds position.opening.deal position.history (seat_to_play position.opening position.history) card → ⊥

-- the seat to play holds the card, but the card is not of the suit led, and the seat has a card of that suit
pub record FailsToFollow (position : Position) (card : Card) : Type 0 where
  pub held : StillHolds position.opening.deal position.history (seat_to_play position.opening position.history) card
  pub led : Suit
  pub is_led : suit_led position.history ≡ Some led
  pub can_follow : CanFollow position.opening position.history led
  pub other_suit : card.suit ≢ led

-- the card is played, or refused for the first reason that applies
abbrev pub PlaysOrRefuses : Position → Card → Result (Unit {0}) PlayFault → Type 0
PlaysOrRefuses position card (Ok done) =
    IsUnfinished position.opening position.history × CanPlay position.opening position.history card
PlaysOrRefuses position card (Err Over) = length position.history ≡ cards_in_play position.opening
PlaysOrRefuses position card (Err NotHeld) =
    IsUnfinished position.opening position.history × LacksCard position card
PlaysOrRefuses position card (Err MustFollow) =
    IsUnfinished position.opening position.history × FailsToFollow position card
