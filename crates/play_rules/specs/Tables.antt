-- The values that a table keeps beside the history, so that no call goes through it again.
use Rattle.std.specs.Prelude.{◌≡◌, ℕ, List, length, Option}
use Rattle.cards.specs.declared.seats.Seat.{Seat}
use Rattle.cards.specs.declared.seats.Side.TheVariants.{NorthSouth, EastWest}
use Rattle.cards.specs.declared.pack.Card.{Card}
use Rattle.cards.specs.Seats.{seat_in_place}
use Rattle.play_rules.specs.History.{trick_of, leader_after, tricks_of}
use Rattle.play_rules.specs.Left.{left_of}
use Rattle.play_rules.specs.Position.{Position, IsReached}

-- the parts of a table that follow from its position
pub record Summary : Type 0 where
  pub left : List (Option Seat)
  pub trick : List Card
  pub trick_leader : Seat
  pub player : Seat
  pub north_south : ℕ
  pub east_west : ℕ

-- these parts follow from the position
pub record Summarizes (position : Position) (s : Summary) : Type 0 where
  pub reached : IsReached position
  pub left_is : s.left ≡ left_of position.opening.deal position.history
  pub trick_is : s.trick ≡ trick_of position.history
  pub trick_leader_is : s.trick_leader ≡ leader_after position.opening.trump position.opening.leader position.history
  pub player_is : s.player ≡ seat_in_place s.trick_leader (length s.trick)
  pub north_south_is :
      s.north_south ≡ tricks_of NorthSouth position.opening.trump position.opening.leader position.history
  pub east_west_is :
      s.east_west ≡ tricks_of EastWest position.opening.trump position.opening.leader position.history
