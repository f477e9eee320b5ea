-- Whose turn it is after some cards.
use Rattle.std.specs.Prelude.{ℕ, ◌-◌, ◌≤◌, List}
use Rattle.cards.specs.declared.seats.Side.{Side}
use Rattle.cards.specs.declared.pack.Card.{Card}
use Rattle.cards.specs.Seats.{side_of, other_side}
use Rattle.cards.specs.Deal.{size_of}
use Rattle.play_rules.specs.History.{Opening}
use Rattle.play_rules.specs.Legal.{seat_to_play}
use Rattle.strategies.specs.Strategies.{CanWin}

-- the side of the seat whose turn it is after the history
abbrev pub side_to_play : Opening → List Card → Side
side_to_play opening history = side_of (seat_to_play opening history)

-- The value after a history: the side to play can win this many tricks in all, and the other side can win the others.
-- Both counts include the tricks in the history.
pub record IsValueAfter (opening : Opening) (history : List Card) (tricks : ℕ) : Type 0 where
  pub within : tricks ≤ size_of opening.deal
  pub player_wins : CanWin opening (side_to_play opening history) tricks history
  pub others_win : CanWin opening (other_side (side_to_play opening history)) (size_of opening.deal - tricks) history
