-- What a side has promised of a play: so many tricks, when all cards are played.
use Rattle.std.specs.Prelude.{ℕ, ◌≤◌}
use Rattle.cards.specs.declared.seats.Side.{Side}
use Rattle.cards.specs.declared.pack.Card.{Card}
use Rattle.play_rules.specs.History.{tricks_of}
use Rattle.play_rules.specs.Legal.{IsPlay, IsUnfinished}
use Rattle.play_rules.specs.Position.{Position, with_card}
use Rattle.strategies.specs.Strategies.{IsTurnOf}

-- what was played so far, the side, and how many tricks it has promised, those won so far counted
pub record Promise : Type 0 where
  pub position : Position
  pub side : Side
  pub tricks : ℕ

-- the same after a card more
abbrev pub after_card : Promise → Card → Promise
after_card promise card = record promise { position = with_card promise.position card }

-- the tricks that the side has won so far
abbrev pub won_by : Promise → ℕ
won_by promise =
    tricks_of promise.side promise.position.opening.trump promise.position.opening.leader promise.position.history

-- when all cards are played the side has what it has promised
abbrev pub IsKept : Promise → Type 0
IsKept promise = IsPlay promise.position.opening promise.position.history → promise.tricks ≤ won_by promise

-- it is the side's turn
abbrev pub IsSidesTurn : Promise → Type 0
IsSidesTurn promise = IsTurnOf promise.position.opening promise.side promise.position.history

-- some card is still to be played
abbrev pub GoesOn : Promise → Type 0
GoesOn promise = IsUnfinished promise.position.opening promise.position.history
