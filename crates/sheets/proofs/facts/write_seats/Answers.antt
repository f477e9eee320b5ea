use Rattle.std.proofs.Common.{◌++◌}
use Rattle.cards.proofs.WriteLemmas.{AddsBeginning-stop, AddsBeginning-then, Writes-then, Writes-err}
use Rattle.sheets.specs.Facts.{seat_text, seats_text}
use Rattle.cards.specs.declared.seats.Seat.TheVariants.{West, East, South}
use Rattle.sheets.proofs.facts.write_seats.Goals as goal

pub returns-in_err-write_seat : goal.returns-in_err-write_seat
unfolding seats_text
returns-in_err-write_seat g c =
    let conditions = c.args.conditions in
    Writes-err c.from_residual.result _ c.from_residual.ensures.1
    (AddsBeginning-stop (seat_text conditions West ++ (seat_text conditions East ++ (seat_text conditions South))) c.in_err-write_seat.ensures)

pub returns-in_err-write_seat-2 : goal.returns-in_err-write_seat-2
unfolding seats_text
returns-in_err-write_seat-2 g c =
    let conditions = c.args.conditions in
    Writes-err c.from_residual-in_err-write_seat-2.result _ c.from_residual-in_err-write_seat-2.ensures.1
    (AddsBeginning-then c.in_ok-write_seat.ensures
    (AddsBeginning-stop (seat_text conditions East ++ (seat_text conditions South)) c.in_err-write_seat-2.ensures))

pub returns-in_err-write_seat-3 : goal.returns-in_err-write_seat-3
unfolding seats_text
returns-in_err-write_seat-3 g c =
    let conditions = c.args.conditions in
    Writes-err c.from_residual-in_err-write_seat-3.result _ c.from_residual-in_err-write_seat-3.ensures.1
    (AddsBeginning-then c.in_ok-write_seat.ensures
    (AddsBeginning-then c.in_ok-write_seat-2.ensures
    (AddsBeginning-stop (seat_text conditions South) c.in_err-write_seat-3.ensures)))

pub returns : goal.returns
unfolding seats_text
returns g c =
    let conditions = c.args.conditions in
    Writes-then c.write_seat-4.result _ _ c.in_ok-write_seat.ensures
    (Writes-then c.write_seat-4.result _ _ c.in_ok-write_seat-2.ensures
    (Writes-then c.write_seat-4.result _ _ c.in_ok-write_seat-3.ensures
    (c.write_seat-4.ensures)))
