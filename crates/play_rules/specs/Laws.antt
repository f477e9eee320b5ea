-- Laws of a trick and of the cards left.
use Rattle.std.specs.Prelude.{◌≡◌, ◌≤◌, List, Contains, None}
use Rattle.cards.specs.declared.suits.Trump.{Trump}
use Rattle.cards.specs.declared.pack.Card.{Card}
use Rattle.cards.specs.Deal.{Deal, holder_of}
use Rattle.play_rules.specs.Tricks.{Trick, IsHighest}
use Rattle.play_rules.specs.Winners.{deciding_suit, winning_place}
use Rattle.play_rules.specs.Left.{left_of}

-- the winner's card is one of the four, and the highest in the suit that decides the trick
abbrev pub WinsByHighestCard : Type 0
WinsByHighestCard =
    (trump : Trump) (trick : Trick)
    → (winning_place trump trick ≤ 3) × IsHighest trick (deciding_suit trump trick) (winning_place trump trick)

-- among the cards left of a deal a card that was played has no holder, and every other card has the holder that it had
abbrev pub LeavesTheUnplayed : Type 0
LeavesTheUnplayed =
    (deal : Deal) (history : List Card) (card : Card)
    → (Contains history card → holder_of (left_of deal history) card ≡ None)
    × ((Contains history card → ⊥) → holder_of (left_of deal history) card ≡ holder_of deal card)
