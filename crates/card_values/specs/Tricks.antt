-- A trick in progress.
use Rattle.std.specs.Prelude.{◌≡◌, ◌≤◌, ◌<◌, List, length, Result, Ok, Err}
use Rattle.cards.specs.declared.suits.Trump.{Trump}
use Rattle.cards.specs.declared.seats.Seat.{Seat}
use Rattle.cards.specs.declared.pack.Card.{Card}
use Rattle.cards.specs.Deal.{Deal}
use Rattle.play_rules.specs.Position.{Position, IsReached}
use Rattle.play_rules.specs.Plays.{PlaysOrRefuses}
use Rattle.card_values.specs.declared.faults.TrickFault.{TrickFault}
use Rattle.card_values.specs.declared.faults.TrickFault.TheVariants.{Whole, Play}

-- up to three cards of the first trick were played, all legally
pub record IsInProgress (position : Position) : Type 0 where
  pub reached : IsReached position
  pub few : length position.history ≤ 3

-- what is kept beside the table is what it says
pub record IsKept (position : Position) (layout : Deal) (leader : Seat) (trump : Trump) (played : List Card)
    : Type 0 where
  pub opening : position.opening ≡ record { deal = layout; leader = leader; trump = trump }
  pub history : position.history ≡ played
  pub progress : IsInProgress position

-- a fourth card is refused, and every other as at a table
abbrev pub TakesOrRefuses : Position → Card → Result (Unit {0}) TrickFault → Type 0
TakesOrRefuses position card (Ok done) = (length position.history < 3) × PlaysOrRefuses position card (Ok done)
TakesOrRefuses position card (Err Whole) = 3 ≤ length position.history
TakesOrRefuses position card (Err (Play fault)) =
    (length position.history < 3) × PlaysOrRefuses position card (Err fault)
