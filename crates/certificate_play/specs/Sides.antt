-- Both sides of a contract before the opening lead.
use Rattle.std.specs.Prelude.{◌≡◌, ℕ, ◌-◌, []}
use Rattle.cards.specs.declared.suits.Trump.{Trump}
use Rattle.cards.specs.declared.seats.Seat.{Seat}
use Rattle.cards.specs.declared.seats.Side.{Side}
use Rattle.cards.specs.Seats.{side_of, other_side}
use Rattle.cards.specs.Deal.{Deal, size_of}
use Rattle.strategies.specs.Values.{opening_of}
use Rattle.certificate_play.specs.declared.sides.Sides.{Sides}
use Rattle.certificate_play.specs.Promises.{Promise}

-- what a side promises of the play of a contract
abbrev pub promised_by : Side → ℕ → Deal → Seat → Trump → Promise
promised_by side tricks deal declarer trump = record {
  position = record { opening = opening_of deal declarer trump; history = [] };
  side = side;
  tricks = tricks;
}

-- nothing was played; declarer's side has promised so many tricks, and the defenders the others
pub record AreBegun (deal : Deal) (declarer : Seat) (trump : Trump) (tricks : ℕ) (sides : Sides) : Type 0 where
  pub declarers : sides.declarers ≡ promised_by (side_of declarer) tricks deal declarer trump
  pub defenders :
      sides.defenders ≡ promised_by (other_side (side_of declarer)) (size_of deal - tricks) deal declarer trump
