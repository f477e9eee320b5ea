use Rattle.std.proofs.Common.{IsTrue, ◌<◌, arith}
use Rattle.cards.specs.declared.seats.Seat.{Seat}
use Rattle.pattern_step.specs.SeatSets.{is_in}
use Rattle.checker.specs.Steps.{need_after}
use Rattle.checker.proofs.WinnerLaws.{four_bits, test_below, test_told}
use Rattle.checker.proofs.ends.seats_going_on.Goals as goal

pub returns-clause-below : goal.returns-clause-below
returns-clause-below c =
    omega (arith, test_below _ _ c.from.ensures, test_below _ _ c.from-2.ensures, test_below _ _ c.from-3.ensures, test_below _ _ c.from-4.ensures)

pub returns-clause-bits : goal.returns-clause-bits
returns-clause-bits c =
    let north = test_below _ _ c.from.ensures in
    let east = test_below _ _ c.from-2.ensures in
    let south = test_below _ _ c.from-3.ensures in
    let west = test_below _ _ c.from-4.ensures in
    four_bits c.from.result c.from-2.result c.from-3.result c.from-4.result _ north east south west (omega (arith, north, east, south, west))
    (λ (seat : Seat). IsTrue (is_in c.args.winners seat) × (0 < need_after c.args.side c.args.need seat))
    (test_told _ _ _ c.from.ensures c.goes_on.ensures) (test_told _ _ _ c.from-2.ensures c.goes_on-2.ensures)
    (test_told _ _ _ c.from-3.ensures c.goes_on-3.ensures) (test_told _ _ _ c.from-4.ensures c.goes_on-4.ensures)
