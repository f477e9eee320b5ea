use Rattle.cards.proofs.WriteLemmas.{AddsBeginning-stop, AddsBeginning-then, Writes-then, Writes-err}
use Rattle.certificate_graph.proofs.WriteLemmas.{writes_same}
use Rattle.play_evidence.proofs.WriteParts.{numbers-parts}
use Rattle.play_evidence.proofs.section_writing.write_numbers.Goals as goal

pub returns-in_err-write_counted : goal.returns-in_err-write_counted
returns-in_err-write_counted g c =
    let end = c.from_residual in
    writes_same _ _ end.result (numbers-parts c.args.claim.now)
    (Writes-err end.result _ end.ensures.1 (AddsBeginning-stop _ (rw c.from.ensures at c.in_err-write_counted.ensures)))

pub returns-in_err-write_root : goal.returns-in_err-write_root
returns-in_err-write_root g c =
    let end = c.from_residual-in_err-write_root in
    writes_same _ _ end.result (numbers-parts c.args.claim.now)
    (Writes-err end.result _ end.ensures.1
    (AddsBeginning-then (rw c.from.ensures at c.in_ok-write_counted.ensures) (AddsBeginning-stop _ c.in_err-write_root.ensures)))

pub returns : goal.returns
returns g c =
    let end = c.write_root-2.result in
    writes_same _ _ end (numbers-parts c.args.claim.now)
    (Writes-then end _ _ (rw c.from.ensures at c.in_ok-write_counted.ensures) (Writes-then end _ _ c.in_ok-write_root.ensures c.write_root-2.ensures))
