-- Values after some cards: no two, and the value of a contract.
use Rattle.std.proofs.Common.{ℕ, ◌-◌, ◌≤◌, List, arith}
use Rattle.cards.specs.declared.seats.Side.{Side}
use Rattle.cards.specs.declared.seats.Side.TheVariants.{NorthSouth, EastWest}
use Rattle.cards.specs.declared.pack.Card.{Card}
use Rattle.cards.specs.Seats.{other_side}
use Rattle.cards.specs.Deal.{size_of, IsLayout}
use Rattle.play_rules.specs.History.{Opening}
use Rattle.play_rules.specs.Legal.{IsLegalHistory}
use Rattle.strategies.specs.Strategies.{CanWin}
use Rattle.strategies.proofs.UniqueProofs.{no_more_than_all}

-- what a side can win at most, where the other can win the others
pub most : (opening : Opening) (history : List Card) (side : Side) (one other : ℕ) → IsLayout opening.deal → IsLegalHistory opening history → other ≤ size_of opening.deal → CanWin opening side one history →
    CanWin opening (other_side side) (size_of opening.deal - other) history → one ≤ other
most opening history NorthSouth one other layout legal within own others = omega (arith, within, no_more_than_all opening one (size_of opening.deal - other) history layout legal own others)
most opening history EastWest one other layout legal within own others = omega (arith, within, no_more_than_all opening (size_of opening.deal - other) one history layout legal others own)
