-- What the recording of a play keeps.
use Rattle.std.specs.Prelude.{◌≡◌, List}
use Rattle.cards.specs.declared.suits.Trump.{Trump}
use Rattle.cards.specs.declared.seats.Seat.{Seat}
use Rattle.cards.specs.declared.pack.Card.{Card}
use Rattle.cards.specs.Deal.{Deal}
use Rattle.play_rules.specs.Position.{Position, IsReached}

-- what is kept beside the table is what it says
pub record IsKept (position : Position) (layout : Deal) (leader : Seat) (trump : Trump) (cards : List Card)
    : Type 0 where
  pub opening : position.opening ≡ record { deal = layout; leader = leader; trump = trump }
  pub history : position.history ≡ cards
  pub reached : IsReached position
