use Rattle.cards.proofs.WriteLemmas.{AddsBeginning-stop, AddsBeginning-then, Writes-then, Writes-err}
use Rattle.deal_subcommands.proofs.solve.runs.write_graphs.Goals as goal

pub returns-in_err-write : goal.returns-in_err-write
returns-in_err-write g c = Writes-err c.from_residual.result _ c.from_residual.ensures.1 (AddsBeginning-stop _ c.in_err-write.ensures)

pub returns-in_err-write_all : goal.returns-in_err-write_all
returns-in_err-write_all g c =
    Writes-err c.from_residual-in_err-write_all.result _ c.from_residual-in_err-write_all.ensures.1
    (AddsBeginning-then c.in_ok-write.ensures (AddsBeginning-stop _ c.in_err-write_all.ensures))

pub returns : goal.returns
returns g c =
    Writes-then c.write-2.result _ _ c.in_ok-write.ensures (Writes-then c.write-2.result _ _ c.in_ok-write_all.ensures c.write-2.ensures)
