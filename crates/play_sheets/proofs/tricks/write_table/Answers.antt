use Rattle.cards.proofs.WriteLemmas.{AddsBeginning-stop, AddsBeginning-then, Writes-then, Writes-err}
use Rattle.play_sheets.specs.Tricks.{table_text}
use Rattle.play_sheets.proofs.tricks.write_table.Goals as goal

pub returns-in_err-write_with_known : goal.returns-in_err-write_with_known
unfolding table_text
returns-in_err-write_with_known g c =
    Writes-err c.from_residual.result _ c.from_residual.ensures.1
    (AddsBeginning-stop _ (rw c.wide.ensures at c.in_err-write_with_known.ensures))

pub returns-in_err-write_rows : goal.returns-in_err-write_rows
unfolding table_text
returns-in_err-write_rows g c =
    Writes-err c.from_residual-in_err-write_rows.result _ c.from_residual-in_err-write_rows.ensures.1
    (AddsBeginning-then (rw c.wide.ensures at c.in_ok-write_with_known.ensures) (AddsBeginning-stop _ (rw c.as_slice-cards.ensures.value at c.in_err-write_rows.ensures)))

pub returns : goal.returns
unfolding table_text
returns g c =
    let last = c.write_totals.result in
    Writes-then last _ _ (rw c.wide.ensures at c.in_ok-write_with_known.ensures) (Writes-then last _ _ (rw c.as_slice-cards.ensures.value at c.in_ok-write_rows.ensures) (rw c.as_slice-cards.ensures.value at c.write_totals.ensures))
