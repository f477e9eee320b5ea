-- The letter of a seat ends no line.
use Rattle.std.proofs.Common.{◌≢◌, ◌-◌, codes, arith}
use Rattle.std.proofs.lemmas.List.Elements.{All-from_recursion}
use Rattle.cards.specs.declared.seats.Seat.{Seat}
use Rattle.cards.specs.declared.seats.Seat.TheVariants.{North, East, South, West}
use Rattle.cards.specs.Seats.{seat_letter}
use Rattle.pbn_deals.specs.Reading.{Lacks}

pub seat-no_end : (seat : Seat) → Lacks 10 (seat_letter seat)
seat-no_end North = All-from_recursion (λ x. x ≢ 10) (codes "N") (omega arith, tt)
seat-no_end East = All-from_recursion (λ x. x ≢ 10) (codes "E") (omega arith, tt)
seat-no_end South = All-from_recursion (λ x. x ≢ 10) (codes "S") (omega arith, tt)
seat-no_end West = All-from_recursion (λ x. x ≢ 10) (codes "W") (omega arith, tt)
