use Rattle.cards.proofs.WriteLemmas.{AddsBeginning-stop, AddsBeginning-then, Writes-then, Writes-err}
use Rattle.play_sheets.specs.Tricks.{row_text}
use Rattle.play_sheets.proofs.tricks.write_row.Goals as goal

pub returns-in_err-write_with_number : goal.returns-in_err-write_with_number
unfolding row_text
returns-in_err-write_with_number g c =
    Writes-err c.from_residual.result _ c.from_residual.ensures.1
    (AddsBeginning-stop _ c.in_err-write_with_number.ensures)

pub returns-in_err-write_cells : goal.returns-in_err-write_cells
unfolding row_text
returns-in_err-write_cells g c =
    Writes-err c.from_residual-in_err-write_cells.result _ c.from_residual-in_err-write_cells.ensures.1
    (AddsBeginning-then c.in_ok-write_with_number.ensures (AddsBeginning-stop _ (rw c.trick_winner.ensures at c.in_err-write_cells.ensures)))

pub returns-in_err-write_with_known : goal.returns-in_err-write_with_known
unfolding row_text
returns-in_err-write_with_known g c =
    Writes-err c.from_residual-in_err-write_with_known.result _ c.from_residual-in_err-write_with_known.ensures.1
    (AddsBeginning-then c.in_ok-write_with_number.ensures (AddsBeginning-then (rw c.trick_winner.ensures at c.in_ok-write_cells.ensures) (AddsBeginning-stop _ (rw (c.wide.ensures, c.number_after.ensures) at c.in_err-write_with_known.ensures))))

pub returns : goal.returns
unfolding row_text
returns g c =
    let last = c.write_all.result in
    Writes-then last _ _ c.in_ok-write_with_number.ensures (Writes-then last _ _ (rw c.trick_winner.ensures at c.in_ok-write_cells.ensures) (Writes-then last _ _ (rw (c.wide.ensures, c.number_after.ensures) at c.in_ok-write_with_known.ensures) c.write_all.ensures))
