-- What a recorded play is worth after each of its cards.
use Rattle.std.specs.Prelude.{◌≡◌, ℕ, ◌+◌, ◌-◌, ◌≤◌, List, length, take, Option, None, slice_index_or, IfSome}
use Rattle.cards.specs.declared.seats.Side.{Side}
use Rattle.cards.specs.declared.pack.Card.{Card}
use Rattle.cards.specs.Seats.{other_side}
use Rattle.cards.specs.Deal.{size_of}
use Rattle.play_rules.specs.History.{Opening}
use Rattle.play_rules.specs.Position.{Position}
use Rattle.strategies.specs.Strategies.{CanWin, IsTurnOf}

-- After the history declarer's side can win this many tricks in all, and the defenders can win the others. Both counts
-- include the tricks in the history.
pub record IsPlayValue (opening : Opening) (declarers : Side) (history : List Card) (tricks : ℕ) : Type 0 where
  pub within : tricks ≤ size_of opening.deal
  pub declarers_win : CanWin opening declarers tricks history
  pub defenders_win : CanWin opening (other_side declarers) (size_of opening.deal - tricks) history

-- ---- all cards
-- a recorded play: the opening with the cards played, and declarer's side
pub record Recorded : Type 0 where
  pub position : Position
  pub declarers : Side

-- the first cards of the play, this many
abbrev pub first_cards : Recorded → ℕ → List Card
first_cards play count = take count play.position.history

-- declarer's side takes this many tricks in all, if both sides play best after the first cards
abbrev pub IsValueAt : Recorded → ℕ → ℕ → Type 0
IsValueAt play count tricks = IsPlayValue play.position.opening play.declarers (first_cards play count) tricks

-- The values of a play: an entry for each number of first cards, from none to all. It is their value, or it is empty if
-- the value isn't known.
pub record ArePlayValues (play : Recorded) (values : List (Option ℕ)) : Type 0 where
  pub count : length values ≡ length play.position.history + 1
  pub each : (count : ℕ) → IfSome (slice_index_or values count None) (IsValueAt play count)

-- ---- one card
-- The tricks that a card loses for the side that plays it after the history. If declarer's side plays it, the number
-- falls by them from before the card to after it. If the defenders play it, the number rises by them.
pub record IsLoss (opening : Opening) (declarers : Side) (history : List Card) (before after lost : ℕ) : Type 0 where
  pub by_declarers : IsTurnOf opening declarers history → lost + after ≡ before
  pub by_defenders : IsTurnOf opening (other_side declarers) history → lost + before ≡ after
