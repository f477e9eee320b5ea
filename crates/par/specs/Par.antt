-- Par.
use Rattle.std.specs.Prelude.{ℕ, ℤ, neg_ℤ}
use Rattle.cards.specs.declared.seats.Seat.{Seat}
use Rattle.cards.specs.declared.seats.Side.TheVariants.{NorthSouth, EastWest}
use Rattle.cards.specs.declared.suits.Trump.{Trump}
use Rattle.cards.specs.Seats.{side_of}
use Rattle.par.specs.declared.vulnerable_sides.VulnerableSides.{VulnerableSides}
use Rattle.par.specs.FinalScores.{final_score}
use Rattle.par.specs.Auctions.{CanReach}

-- Par, as a score of North and South: they can gain at least this, and East and West can hold them to it.
pub record IsPar (tricks : Seat → Trump → ℕ) (dealer : Seat) (vulnerable : VulnerableSides) (par : ℤ) : Type 0 where
  pub north_south : CanReach (final_score tricks vulnerable) (side_of dealer) NorthSouth par
  pub east_west : CanReach (final_score tricks vulnerable) (side_of dealer) EastWest (neg_ℤ par)
