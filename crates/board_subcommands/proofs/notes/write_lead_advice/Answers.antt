use Rattle.cards.proofs.WriteLemmas.{AddsBeginning-stop, Writes-then, Writes-err}
use Rattle.board_subcommands.proofs.notes.write_lead_advice.Goals as goal

pub returns-in_err-write_if : goal.returns-in_err-write_if
returns-in_err-write_if g c = Writes-err c.from_residual.result _ c.from_residual.ensures.1 (AddsBeginning-stop _ c.in_err-write_if.ensures)

pub returns : goal.returns
returns g c = Writes-then c.write_if-2.result _ _ c.in_ok-write_if.ensures c.write_if-2.ensures
