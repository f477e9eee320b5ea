use Rattle.cards.proofs.WriteLemmas.{AddsBeginning-stop, AddsBeginning-then, Writes-then, Writes-err}
use Rattle.board_subcommands.proofs.notes.write_missing.Goals as goal

pub returns-in_err-write_row_count : goal.returns-in_err-write_row_count
returns-in_err-write_row_count g c = Writes-err c.from_residual.result _ c.from_residual.ensures.1 (AddsBeginning-stop _ c.in_err-write_row_count.ensures)

pub returns-in_err-write_counts : goal.returns-in_err-write_counts
returns-in_err-write_counts g c =
    Writes-err c.from_residual-in_err-write_counts.result _ c.from_residual-in_err-write_counts.ensures.1
    (AddsBeginning-then c.in_ok-write_row_count.ensures (AddsBeginning-stop _ c.in_err-write_counts.ensures))

pub returns : goal.returns
returns g c =
    Writes-then c.write_lead_advice.result _ _ c.in_ok-write_row_count.ensures
    (Writes-then c.write_lead_advice.result _ _ c.in_ok-write_counts.ensures c.write_lead_advice.ensures)
