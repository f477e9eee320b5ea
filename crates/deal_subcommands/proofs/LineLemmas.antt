-- A line of play in which both sides have what they promised.
use Rattle.std.proofs.Common.{◌≡◌, ℕ, ◌-◌, List, arith}
use Rattle.cards.specs.declared.seats.Side.{Side}
use Rattle.cards.specs.declared.seats.Side.TheVariants.{NorthSouth, EastWest}
use Rattle.cards.specs.declared.pack.Card.{Card}
use Rattle.cards.specs.Seats.{other_side}
use Rattle.cards.specs.Deal.{size_of}
use Rattle.play_rules.specs.History.{Opening, tricks_of}
use Rattle.play_rules.specs.Legal.{IsPlay}
use Rattle.strategies.proofs.LawProofs.{share}

-- what one side doesn't win of a play the other does
pub others_of : (side : Side) (opening : Opening) (cards : List Card) (tricks : ℕ) → IsPlay opening cards →
    tricks_of side opening.trump opening.leader cards ≡ tricks →
    tricks_of (other_side side) opening.trump opening.leader cards ≡ size_of opening.deal - tricks
others_of NorthSouth opening cards tricks play is = omega (arith, share opening cards play, is)
others_of EastWest opening cards tricks play is = omega (arith, share opening cards play, is)
