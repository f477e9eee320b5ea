use Rattle.cards.proofs.WriteLemmas.{AddsBeginning-stop, Writes-then, Writes-err}
use Rattle.evidence.proofs.section_writing.write_roots.Goals as goal

pub returns-in_err-write_root : goal.returns-in_err-write_root
returns-in_err-write_root g c = Writes-err c.from_residual.result _ c.from_residual.ensures.1 (AddsBeginning-stop _ c.in_err-write_root.ensures)

pub returns : goal.returns
returns g c = Writes-then c.write_root-2.result _ _ c.in_ok-write_root.ensures c.write_root-2.ensures
