-- What follows from the definitions, for all patterns.
use Rattle.std.specs.Prelude.{◌≡◌, ℕ, ◌<◌, List, length}
use Rattle.cards.specs.declared.suits.Trump.{Trump}
use Rattle.cards.specs.declared.seats.Seat.{Seat}
use Rattle.patterns.specs.Shapes.{Shape}
use Rattle.pattern_step.specs.declared.pat_cards.PatCard.{PatCard}
use Rattle.pattern_step.specs.Tricks.{AreLegalInTurn, MayWin, IsLeft}
use Rattle.pattern_step.specs.Runs.{IsAlikeIn}

-- Two lines that have, in each place, the same card or a card and a higher one in a run of its seat: who may win with
-- the cards may with the higher ones, and what the higher ones leave the cards leave.
abbrev pub LinesAreAlike : Type 0
LinesAreAlike =
    (shape : Shape) (trump : Trump) (leader : Seat) (cards higher : List PatCard)
    → length cards ≡ 4 → length higher ≡ 4 → AreLegalInTurn shape leader cards → AreLegalInTurn shape leader higher
    → ((place : ℕ) → place < 4 → IsAlikeIn shape leader cards higher place)
    → ((seat : Seat) → MayWin shape trump leader cards seat → MayWin shape trump leader higher seat)
    × ((left : Shape) → IsLeft shape leader higher left → IsLeft shape leader cards left)
