-- Double-dummy values.
use Rattle.std.specs.Prelude.{ℕ, ◌-◌, ◌≤◌, [], List}
use Rattle.cards.specs.declared.suits.Trump.{Trump}
use Rattle.cards.specs.declared.seats.Seat.{Seat}
use Rattle.cards.specs.declared.seats.Side.TheVariants.{NorthSouth, EastWest}
use Rattle.cards.specs.declared.pack.Card.{Card}
use Rattle.cards.specs.Seats.{next_of, side_of, other_side}
use Rattle.cards.specs.Deal.{Deal, size_of}
use Rattle.play_rules.specs.History.{Opening, leader_after}
use Rattle.play_rules.specs.Left.{left_of}
use Rattle.strategies.specs.Strategies.{CanWin}

-- the play of a contract: the seat at declarer's left leads (Law 41A)
abbrev pub opening_of : Deal → Seat → Trump → Opening
opening_of deal declarer trump = record { deal = deal; leader = next_of declarer; trump = trump }

-- The double-dummy value: declarer's side can win this many tricks, and the defenders can win the others.
pub record IsValue (deal : Deal) (declarer : Seat) (trump : Trump) (tricks : ℕ) : Type 0 where
  pub within : tricks ≤ size_of deal
  pub declarer_wins : CanWin (opening_of deal declarer trump) (side_of declarer) tricks []
  pub defenders_win : CanWin (opening_of deal declarer trump) (other_side (side_of declarer)) (size_of deal - tricks) []

-- North and South can win this many tricks, and East and West the others.
pub record IsPlainValue (opening : Opening) (tricks : ℕ) : Type 0 where
  pub within : tricks ≤ size_of opening.deal
  pub north_south : CanWin opening NorthSouth tricks []
  pub east_west : CanWin opening EastWest (size_of opening.deal - tricks) []

-- the opening of the rest after whole tricks: the layout that is left, with the last winner to lead
abbrev pub opening_after : Opening → List Card → Opening
opening_after opening history =
    record {
      deal = left_of opening.deal history;
      leader = leader_after opening.trump opening.leader history;
      trump = opening.trump;
    }
