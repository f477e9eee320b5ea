use Rattle.cards.proofs.WriteLemmas.{AddsBeginning-stop, AddsBeginning-then, Writes-then, Writes-err}
use Rattle.play_sheets.specs.Cells.{losing_text}
use Rattle.play_sheets.proofs.cells.write_losing.Goals as goal

pub returns-in_err-write_all : goal.returns-in_err-write_all
unfolding losing_text
returns-in_err-write_all g c =
    Writes-err c.from_residual.result _ c.from_residual.ensures.1
    (AddsBeginning-stop _ c.in_err-write_all.ensures)

pub returns-in_err-write_card : goal.returns-in_err-write_card
unfolding losing_text
returns-in_err-write_card g c =
    Writes-err c.from_residual-in_err-write_card.result _ c.from_residual-in_err-write_card.ensures.1
    (AddsBeginning-then c.in_ok-write_all.ensures (AddsBeginning-stop _ c.in_err-write_card.ensures))

pub returns : goal.returns
unfolding losing_text
returns g c =
    let last = c.write_with_number.result in
    Writes-then last _ _ c.in_ok-write_all.ensures (Writes-then last _ _ c.in_ok-write_card.ensures c.write_with_number.ensures)
