use Rattle.cards.proofs.WriteLemmas.{AddsBeginning-stop, Writes-then, Writes-err}
use Rattle.deal_subcommands.proofs.solve.runs.write_answer.Goals as goal

pub returns-in_err-write_result : goal.returns-in_err-write_result
returns-in_err-write_result g c = Writes-err c.from_residual.result _ c.from_residual.ensures.1 (AddsBeginning-stop _ c.in_err-write_result.ensures)

pub returns : goal.returns
returns g c = Writes-then c.write_graphs.result _ _ c.in_ok-write_result.ensures c.write_graphs.ensures
