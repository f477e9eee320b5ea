-- The values of cards: no two, and the value of the best.
use Rattle.std.proofs.Common.{◌≡◌, ◌-◌}
use Rattle.cards.specs.declared.seats.Side.{Side}
use Rattle.cards.specs.declared.seats.Side.TheVariants.{NorthSouth, EastWest}
use Rattle.cards.specs.Seats.{other_side}

-- no side is the other one
pub apart : (side : Side) → side ≡ other_side side → ⊥
apart NorthSouth same = cc
apart EastWest same = cc
