use Rattle.cards.proofs.WriteLemmas.{AddsBeginning-stop, AddsBeginning-then, Writes-then, Writes-err}
use Rattle.play_sheets.specs.Games.{seats_text}
use Rattle.play_sheets.proofs.games.write_seats.Goals as goal

pub returns-in_err-write_seat : goal.returns-in_err-write_seat
unfolding seats_text
returns-in_err-write_seat g c =
    Writes-err c.from_residual.result _ c.from_residual.ensures.1
    (AddsBeginning-stop _ c.in_err-write_seat.ensures)

pub returns-in_err-write_seat-2 : goal.returns-in_err-write_seat-2
unfolding seats_text
returns-in_err-write_seat-2 g c =
    Writes-err c.from_residual-in_err-write_seat-2.result _ c.from_residual-in_err-write_seat-2.ensures.1
    (AddsBeginning-then c.in_ok-write_seat.ensures (AddsBeginning-stop _ c.in_err-write_seat-2.ensures))

pub returns-in_err-write_seat-3 : goal.returns-in_err-write_seat-3
unfolding seats_text
returns-in_err-write_seat-3 g c =
    Writes-err c.from_residual-in_err-write_seat-3.result _ c.from_residual-in_err-write_seat-3.ensures.1
    (AddsBeginning-then c.in_ok-write_seat.ensures (AddsBeginning-then c.in_ok-write_seat-2.ensures (AddsBeginning-stop _ c.in_err-write_seat-3.ensures)))

pub returns : goal.returns
unfolding seats_text
returns g c =
    let last = c.write_seat-4.result in
    Writes-then last _ _ c.in_ok-write_seat.ensures (Writes-then last _ _ c.in_ok-write_seat-2.ensures (Writes-then last _ _ c.in_ok-write_seat-3.ensures c.write_seat-4.ensures))
