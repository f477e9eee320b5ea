use Rattle.cards.proofs.DeviceLemmas.{Adds-twice}
use Rattle.cards.proofs.WriteLemmas.{AddsBeginning-stop, AddsBeginning-then, Writes-then, Writes-err}
use Rattle.run_ends.proofs.telling.write_line.Goals as goal

pub returns-in_err-write_all : goal.returns-in_err-write_all
returns-in_err-write_all g c = Writes-err c.from_residual.result _ c.from_residual.ensures.1 (AddsBeginning-stop _ c.in_err-write_all.ensures)

pub returns-in_err-write_said : goal.returns-in_err-write_said
returns-in_err-write_said g c =
    Writes-err c.from_residual-in_err-write_said.result _ c.from_residual-in_err-write_said.ensures.1
    (AddsBeginning-stop _ (AddsBeginning-then c.in_ok-write_all.ensures c.in_err-write_said.ensures))

pub returns : goal.returns
returns g c = Writes-then c.write_all-2.result _ _ (Adds-twice c.in_ok-write_all.ensures c.in_ok-write_said.ensures) c.write_all-2.ensures
