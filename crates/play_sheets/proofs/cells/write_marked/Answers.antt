use Rattle.cards.proofs.WriteLemmas.{AddsBeginning-stop, Writes-then, Writes-err}
use Rattle.play_sheets.specs.Cells.{marked_text}
use Rattle.play_sheets.proofs.cells.write_marked.Goals as goal

pub returns-in_err-write_lead : goal.returns-in_err-write_lead
unfolding marked_text
returns-in_err-write_lead g c =
    Writes-err c.from_residual.result _ c.from_residual.ensures.1
    (AddsBeginning-stop _ c.in_err-write_lead.ensures)

pub returns : goal.returns
unfolding marked_text
returns g c =
    let last = c.write_won.result in
    Writes-then last _ _ c.in_ok-write_lead.ensures c.write_won.ensures
