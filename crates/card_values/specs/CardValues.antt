-- The tricks that each card leads to.
use Rattle.std.specs.Prelude.{ℕ, ◌-◌, ◌≤◌, List, [], ◌∷◌, ◌++◌, All, map}
use Rattle.cards.specs.declared.pack.Card.{Card}
use Rattle.cards.specs.Seats.{other_side}
use Rattle.cards.specs.Deal.{size_of}
use Rattle.play_rules.specs.History.{Opening}
use Rattle.play_rules.specs.Position.{Position, AreLegalCards}
use Rattle.strategies.specs.Strategies.{CanWin}
use Rattle.checker.specs.ValuesAfter.{side_to_play}
use Rattle.card_values.specs.declared.values.CardValue.{CardValue}

-- The value of a card after a history: if the seat to play plays it, that seat's side can win this many tricks in all,
-- and the other side can win the others.
pub record IsCardValue (opening : Opening) (history : List Card) (card : Card) (tricks : ℕ) : Type 0 where
  pub within : tricks ≤ size_of opening.deal
  pub player_wins : CanWin opening (side_to_play opening history) tricks (history ++ card ∷ [])
  pub others_win : CanWin opening (other_side (side_to_play opening history)) (size_of opening.deal - tricks)
      (history ++ card ∷ [])

-- the cards of some values
abbrev pub cards_of : List CardValue → List Card
cards_of values = map (λ value. value.card) values

-- each card that may be played, once, by suit and with ranks falling, with its value
pub record AreCardValues (position : Position) (values : List CardValue) : Type 0 where
  pub cards : AreLegalCards position (cards_of values)
  pub each : All (λ value. IsCardValue position.opening position.history value.card value.tricks) values

-- a trick in progress, and the values of the cards that may be played to it
pub record ShownValues : Type 0 where
  pub position : Position
  pub values : List CardValue
