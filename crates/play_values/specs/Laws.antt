-- Laws of the values of a play.
use Rattle.std.specs.Prelude.{◌≡◌, ℕ, ◌≤◌, ◌↔◌, List, [], ◌∷◌, ◌++◌}
use Rattle.cards.specs.declared.suits.Trump.{Trump}
use Rattle.cards.specs.declared.seats.Seat.{Seat}
use Rattle.cards.specs.declared.seats.Side.{Side}
use Rattle.cards.specs.declared.pack.Card.{Card}
use Rattle.cards.specs.Seats.{side_of, other_side}
use Rattle.cards.specs.Deal.{Deal, IsLayout}
use Rattle.play_rules.specs.History.{Opening}
use Rattle.play_rules.specs.Legal.{IsLegalHistory}
use Rattle.strategies.specs.Strategies.{IsTurnOf}
use Rattle.strategies.specs.Values.{IsValue, opening_of}
use Rattle.play_values.specs.PlayValues.{IsPlayValue}

-- A card cannot gain: a card of declarer's side never raises declarer's number, and a card of the defenders never
-- lowers it.
abbrev pub CardCannotGain : Type 0
CardCannotGain =
    (opening : Opening) (declarers : Side) (history : List Card) (card : Card) (before after : ℕ)
    → IsLayout opening.deal → IsLegalHistory opening (history ++ card ∷ [])
    → IsPlayValue opening declarers history before → IsPlayValue opening declarers (history ++ card ∷ []) after
    → (IsTurnOf opening declarers history → after ≤ before)
    × (IsTurnOf opening (other_side declarers) history → before ≤ after)

-- after a legal history there is at most one value
abbrev pub HasOnePlayValue : Type 0
HasOnePlayValue =
    (opening : Opening) (declarers : Side) (history : List Card) (one other : ℕ)
    → IsLayout opening.deal → IsLegalHistory opening history
    → IsPlayValue opening declarers history one → IsPlayValue opening declarers history other
    → one ≡ other

-- before the first card the value of a play is the double-dummy value of the contract
abbrev pub FirstValueIsValue : Type 0
FirstValueIsValue =
    (deal : Deal) (declarer : Seat) (trump : Trump) (tricks : ℕ)
    → IsValue deal declarer trump tricks ↔ IsPlayValue (opening_of deal declarer trump) (side_of declarer) [] tricks
