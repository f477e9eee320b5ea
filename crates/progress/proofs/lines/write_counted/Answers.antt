use Rattle.cards.proofs.WriteLemmas.{AddsBeginning-stop, AddsBeginning-then, Writes-then, Writes-err}
use Rattle.progress.proofs.lines.write_counted.Goals as goal

pub returns-in_err-write_number : goal.returns-in_err-write_number
returns-in_err-write_number g c = Writes-err c.from_residual.result _ c.from_residual.ensures.1
    (AddsBeginning-stop _ c.in_err-write_number.ensures)

pub returns-in_err-write_all : goal.returns-in_err-write_all
returns-in_err-write_all g c = Writes-err c.from_residual-in_err-write_all.result _ c.from_residual-in_err-write_all.ensures.1
    (AddsBeginning-then c.in_ok-write_number.ensures (AddsBeginning-stop _ c.in_err-write_all.ensures))

pub returns-in_err-write_number-2 : goal.returns-in_err-write_number-2
returns-in_err-write_number-2 g c = Writes-err c.from_residual-in_err-write_number-2.result _ c.from_residual-in_err-write_number-2.ensures.1
    (AddsBeginning-then c.in_ok-write_number.ensures (AddsBeginning-then c.in_ok-write_all.ensures (AddsBeginning-stop _ c.in_err-write_number-2.ensures)))

pub returns : goal.returns
returns g c = Writes-then c.write_all-2.result _ _ c.in_ok-write_number.ensures (Writes-then c.write_all-2.result _ _ c.in_ok-write_all.ensures (Writes-then c.write_all-2.result _ _ c.in_ok-write_number-2.ensures c.write_all-2.ensures))
