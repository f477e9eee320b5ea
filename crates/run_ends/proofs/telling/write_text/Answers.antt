use Rattle.cards.proofs.WriteLemmas.{AddsBeginning-stop, Writes-then, Writes-err}
use Rattle.run_ends.proofs.telling.write_text.Goals as goal

pub returns-in_err-write_line : goal.returns-in_err-write_line
returns-in_err-write_line g c = Writes-err c.from_residual.result _ c.from_residual.ensures.1 (AddsBeginning-stop _ c.in_err-write_line.ensures)

pub returns : goal.returns
returns g c = Writes-then c.write_explanation.result _ _ c.in_ok-write_line.ensures c.write_explanation.ensures
