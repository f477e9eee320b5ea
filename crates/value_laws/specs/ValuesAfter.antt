-- Double-dummy values after some cards, also in the middle of a trick.
use Rattle.std.specs.Prelude.{◌≡◌, ℕ, ◌+◌, ◌-◌, ◌≤◌, ◌↔◌, [], ◌++◌, List, if◌then◌else◌}
use Rattle.cards.specs.declared.suits.Trump.{Trump}
use Rattle.cards.specs.declared.seats.Seat.{Seat}
use Rattle.cards.specs.declared.seats.Side.{Side}
use Rattle.cards.specs.declared.pack.Card.{Card}
use Rattle.cards.specs.Seats.{is_same_side}
use Rattle.cards.specs.Deal.{Deal, IsLayout, size_of}
use Rattle.play_rules.specs.History.{Opening, trick_of}
use Rattle.play_rules.specs.Legal.{IsLegalHistory}
use Rattle.strategies.specs.Values.{IsValue, opening_of, opening_after}
use Rattle.checker.specs.ValuesAfter.{IsValueAfter, side_to_play}
use Rattle.play_values.specs.PlayValues.{IsPlayValue}
use Rattle.play_values.specs.Rests.{tricks_won}

-- after a legal history there is at most one value
abbrev pub HasOneValueAfter : Type 0
HasOneValueAfter =
    (opening : Opening) (history : List Card) (one other : ℕ)
    → IsLayout opening.deal → IsLegalHistory opening history
    → IsValueAfter opening history one → IsValueAfter opening history other
    → one ≡ other

-- Before the first card the defenders are to play, so the value after no cards is the number of the tricks that
-- declarer does not take.
abbrev pub ValueIsValueAfter : Type 0
ValueIsValueAfter =
    (deal : Deal) (declarer : Seat) (trump : Trump) (tricks : ℕ) → tricks ≤ size_of deal
    → IsValue deal declarer trump tricks
    ↔ IsValueAfter (opening_of deal declarer trump) [] (size_of deal - tricks)

-- After whole tricks and some more cards, the value is the value after these cards in play of the layout that was left,
-- and the tricks that the side to play had won before.
abbrev pub ValueCountsTricksWon : Type 0
ValueCountsTricksWon =
    (opening : Opening) (history more : List Card) (tricks : ℕ)
    → IsLayout opening.deal → IsLegalHistory opening (history ++ more) → trick_of history ≡ []
    → IsValueAfter (opening_after opening history) more tricks
    → IsValueAfter opening (history ++ more)
    (tricks_won opening (side_to_play opening (history ++ more)) history + tricks)

-- The value of a play is the value after its cards if declarer's side is to play then. Otherwise that is the number of
-- the other tricks.
abbrev pub PlayValueIsValueAfter : Type 0
PlayValueIsValueAfter =
    (opening : Opening) (declarers : Side) (history : List Card) (tricks : ℕ) → tricks ≤ size_of opening.deal
    → IsPlayValue opening declarers history tricks
    ↔ IsValueAfter opening history
    (if is_same_side (side_to_play opening history) declarers then tricks else size_of opening.deal - tricks)
