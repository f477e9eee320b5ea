-- Laws of the values of cards.
use Rattle.std.specs.Prelude.{◌≡◌, ℕ, ◌-◌, ◌≤◌, List, [], ◌∷◌, ◌++◌, if◌then◌else◌}
use Rattle.cards.specs.declared.pack.Card.{Card}
use Rattle.cards.specs.Seats.{is_same_side}
use Rattle.cards.specs.Deal.{IsLayout, size_of}
use Rattle.play_rules.specs.History.{Opening}
use Rattle.play_rules.specs.Legal.{CanPlay, IsLegalHistory, IsUnfinished}
use Rattle.checker.specs.ValuesAfter.{IsValueAfter, side_to_play}
use Rattle.card_values.specs.CardValues.{IsCardValue}

-- a card that may be played has at most one value
abbrev pub HasOneCardValue : Type 0
HasOneCardValue =
    (opening : Opening) (history : List Card) (card : Card) (one other : ℕ)
    → IsLayout opening.deal → IsLegalHistory opening (history ++ card ∷ [])
    → IsCardValue opening history card one → IsCardValue opening history card other
    → one ≡ other

-- each card that may be played has a value, which is at most this
abbrev pub HasValuesUpTo : Opening → List Card → ℕ → Type 0
HasValuesUpTo opening history most =
    (card : Card) → CanPlay opening history card
    → (tricks : ℕ) × IsCardValue opening history card tricks × (tricks ≤ most)

-- the value of the best card is the value after the history
abbrev pub BestCardIsValue : Type 0
BestCardIsValue =
    (opening : Opening) (history : List Card) (card : Card) (tricks : ℕ)
    → IsLayout opening.deal → IsLegalHistory opening history → IsUnfinished opening history
    → CanPlay opening history card → IsCardValue opening history card tricks
    → HasValuesUpTo opening history tricks
    → IsValueAfter opening history tricks

-- The value of a card is the value after it, if the same side is to play then. Otherwise it is the number of the
-- other tricks.
abbrev pub CardValueIsValueAfter : Type 0
CardValueIsValueAfter =
    (opening : Opening) (history : List Card) (card : Card) (tricks : ℕ)
    → IsCardValue opening history card tricks
    → IsValueAfter opening (history ++ card ∷ [])
    (if is_same_side (side_to_play opening (history ++ card ∷ [])) (side_to_play opening history)
    then tricks else size_of opening.deal - tricks)
