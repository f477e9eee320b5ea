use Rattle.cards.proofs.WriteLemmas.{AddsBeginning-stop, AddsBeginning-then, Writes-then, Writes-err}
use Rattle.play_sheets.specs.Cells.{winning_text}
use Rattle.play_sheets.proofs.cells.write_winning.Goals as goal

pub returns-in_err-write_all : goal.returns-in_err-write_all
unfolding winning_text
returns-in_err-write_all g c =
    Writes-err c.from_residual.result _ c.from_residual.ensures.1
    (AddsBeginning-stop _ c.in_err-write_all.ensures)

pub returns-in_err-write_line : goal.returns-in_err-write_line
unfolding winning_text
returns-in_err-write_line g c =
    Writes-err c.from_residual-in_err-write_line.result _ c.from_residual-in_err-write_line.ensures.1
    (AddsBeginning-then c.in_ok-write_all.ensures (AddsBeginning-stop _ c.in_err-write_line.ensures))

pub returns : goal.returns
unfolding winning_text
returns g c =
    let last = c.write_all-2.result in
    Writes-then last _ _ c.in_ok-write_all.ensures (Writes-then last _ _ c.in_ok-write_line.ensures c.write_all-2.ensures)
