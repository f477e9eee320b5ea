use Rattle.cards.proofs.WriteLemmas.{AddsBeginning-stop, AddsBeginning-then, Writes-then, Writes-err}
use Rattle.play_sheets.specs.Games.{illegal_text}
use Rattle.play_sheets.proofs.games.write_illegal.Goals as goal

pub returns-in_err-write_with_number : goal.returns-in_err-write_with_number
unfolding illegal_text
returns-in_err-write_with_number g c =
    Writes-err c.from_residual.result _ c.from_residual.ensures.1
    (AddsBeginning-stop _ c.in_err-write_with_number.ensures)

pub returns-in_err-write_with_seat : goal.returns-in_err-write_with_seat
unfolding illegal_text
returns-in_err-write_with_seat g c =
    Writes-err c.from_residual-in_err-write_with_seat.result _ c.from_residual-in_err-write_with_seat.ensures.1
    (AddsBeginning-then c.in_ok-write_with_number.ensures (AddsBeginning-stop _ c.in_err-write_with_seat.ensures))

pub returns-in_err-write_card : goal.returns-in_err-write_card
unfolding illegal_text
returns-in_err-write_card g c =
    Writes-err c.from_residual-in_err-write_card.result _ c.from_residual-in_err-write_card.ensures.1
    (AddsBeginning-then c.in_ok-write_with_number.ensures (AddsBeginning-then c.in_ok-write_with_seat.ensures (AddsBeginning-stop _ c.in_err-write_card.ensures)))

pub returns : goal.returns
unfolding illegal_text
returns g c =
    let last = c.write_reason.result in
    Writes-then last _ _ c.in_ok-write_with_number.ensures (Writes-then last _ _ c.in_ok-write_with_seat.ensures (Writes-then last _ _ c.in_ok-write_card.ensures c.write_reason.ensures))
