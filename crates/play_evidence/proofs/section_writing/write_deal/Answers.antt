use Rattle.cards.proofs.WriteLemmas.{AddsBeginning-stop, AddsBeginning-then, Writes-then, Writes-err}
use Rattle.play_evidence.proofs.section_writing.write_deal.Goals as goal

pub returns-in_err-write_all : goal.returns-in_err-write_all
returns-in_err-write_all g c = Writes-err c.from_residual.result _ c.from_residual.ensures.1 (AddsBeginning-stop _ c.in_err-write_all.ensures)

pub returns-in_err-write_layout : goal.returns-in_err-write_layout
returns-in_err-write_layout g c =
    Writes-err c.from_residual-in_err-write_layout.result _ c.from_residual-in_err-write_layout.ensures.1
    (AddsBeginning-then c.in_ok-write_all.ensures (AddsBeginning-stop _ c.in_err-write_layout.ensures))

pub returns : goal.returns
returns g c =
    Writes-then c.write_all-2.result _ _ c.in_ok-write_all.ensures (Writes-then c.write_all-2.result _ _ c.in_ok-write_layout.ensures c.write_all-2.ensures)
