-- Cards that lead to the most tricks.
use Rattle.std.specs.Prelude.{◌≡◌, ℕ, ◌≤◌, List, length, All}
use Rattle.cards.specs.declared.pack.Card.{Card}
use Rattle.play_rules.specs.Legal.{CanPlay}
use Rattle.play_rules.specs.Position.{Position, AreInOrder}
use Rattle.checker.specs.ValuesAfter.{IsValueAfter}
use Rattle.card_values.specs.declared.values.CardValue.{CardValue}
use Rattle.card_values.specs.CardValues.{IsCardValue, cards_of}

-- the card may be played, and leads to this many tricks
pub record IsBestCard (position : Position) (best : ℕ) (value : CardValue) : Type 0 where
  pub can : CanPlay position.opening position.history value.card
  pub tricks : value.tricks ≡ best
  pub value_is : IsCardValue position.opening position.history value.card value.tricks

-- no card that may be played leads to more tricks
abbrev pub NoneIsBetter : Position → ℕ → Type 0
NoneIsBetter position best =
    (card : Card) (tricks : ℕ) → CanPlay position.opening position.history card
    → IsCardValue position.opening position.history card tricks → tricks ≤ best

-- Some of the cards that lead to the most tricks, at least one, by suit and with ranks falling. These tricks are the
-- double-dummy value after the cards played.
pub record AreBestCards (position : Position) (values : List CardValue) : Type 0 where
  pub best : ℕ
  pub some : 1 ≤ length values
  pub each : All (IsBestCard position best) values
  pub in_order : AreInOrder (cards_of values)
  pub value_is : IsValueAfter position.opening position.history best
  pub most : NoneIsBetter position best
