use Rattle.std.proofs.Common.{◌++◌}
use Rattle.cards.proofs.WriteLemmas.{AddsBeginning-stop, AddsBeginning-then, Writes-then, Writes-err}
use Rattle.opening_leads.specs.Tasks.{leads_in}
use Rattle.opening_leads.specs.Texts.{rows_text, incomplete_text, known_count, headed_text}
use Rattle.opening_leads.proofs.writing.write_headed.Goals as goal

pub returns-in_err-write_tag : goal.returns-in_err-write_tag
unfolding headed_text
returns-in_err-write_tag g c =
    let leads = leads_in c.args.table.now c.args.board in
    Writes-err c.from_residual.result _ c.from_residual.ensures.1
    (AddsBeginning-stop (rows_text leads ++ incomplete_text (known_count leads)) c.in_err-write_tag.ensures)

pub returns-in_err-write_rows : goal.returns-in_err-write_rows
unfolding headed_text
returns-in_err-write_rows g c =
    let leads = leads_in c.args.table.now c.args.board in
    Writes-err c.from_residual-in_err-write_rows.result _ c.from_residual-in_err-write_rows.ensures.1
    (AddsBeginning-then c.in_ok-write_tag.ensures (AddsBeginning-stop (incomplete_text (known_count leads)) c.in_err-write_rows.ensures))

pub returns : goal.returns
unfolding headed_text
returns g c =
    let last = rw c.count_rows.ensures.count at c.write_incomplete.ensures in
    Writes-then c.write_incomplete.result _ _ c.in_ok-write_tag.ensures
    (Writes-then c.write_incomplete.result _ _ c.in_ok-write_rows.ensures last)
