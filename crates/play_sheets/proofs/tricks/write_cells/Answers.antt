use Rattle.cards.proofs.WriteLemmas.{AddsBeginning-stop, AddsBeginning-then, Writes-then, Writes-err}
use Rattle.play_sheets.specs.Tricks.{cells_text}
use Rattle.play_sheets.proofs.tricks.write_cells.Goals as goal

pub returns-in_err-write_cell : goal.returns-in_err-write_cell
unfolding cells_text
returns-in_err-write_cell g c =
    Writes-err c.from_residual.result _ c.from_residual.ensures.1
    (AddsBeginning-stop _ c.in_err-write_cell.ensures)

pub returns-in_err-write_cell-2 : goal.returns-in_err-write_cell-2
unfolding cells_text
returns-in_err-write_cell-2 g c =
    Writes-err c.from_residual-in_err-write_cell-2.result _ c.from_residual-in_err-write_cell-2.ensures.1
    (AddsBeginning-then c.in_ok-write_cell.ensures (AddsBeginning-stop _ c.in_err-write_cell-2.ensures))

pub returns-in_err-write_cell-3 : goal.returns-in_err-write_cell-3
unfolding cells_text
returns-in_err-write_cell-3 g c =
    Writes-err c.from_residual-in_err-write_cell-3.result _ c.from_residual-in_err-write_cell-3.ensures.1
    (AddsBeginning-then c.in_ok-write_cell.ensures (AddsBeginning-then c.in_ok-write_cell-2.ensures (AddsBeginning-stop _ c.in_err-write_cell-3.ensures)))

pub returns : goal.returns
unfolding cells_text
returns g c =
    let last = c.write_cell-4.result in
    Writes-then last _ _ c.in_ok-write_cell.ensures (Writes-then last _ _ c.in_ok-write_cell-2.ensures (Writes-then last _ _ c.in_ok-write_cell-3.ensures c.write_cell-4.ensures))
