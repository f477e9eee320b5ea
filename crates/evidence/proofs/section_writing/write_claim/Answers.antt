use Rattle.cards.proofs.WriteLemmas.{AddsBeginning-stop, AddsBeginning-then, Writes-then, Writes-err}
use Rattle.certificate_graph.proofs.WriteLemmas.{writes_same}
use Rattle.evidence.proofs.WriteParts.{claim-parts}
use Rattle.evidence.proofs.section_writing.write_claim.Goals as goal

pub returns-in_err-write_seat : goal.returns-in_err-write_seat
returns-in_err-write_seat g c = Writes-err c.from_residual.result _ c.from_residual.ensures.1 (AddsBeginning-stop _ c.in_err-write_seat.ensures)

pub returns-in_err-write_all : goal.returns-in_err-write_all
returns-in_err-write_all g c =
    let end = c.from_residual-in_err-write_all in
    Writes-err end.result _ end.ensures.1 (AddsBeginning-then c.in_ok-write_seat.ensures (AddsBeginning-stop _ c.in_err-write_all.ensures))

pub returns-in_err-write_counted : goal.returns-in_err-write_counted
returns-in_err-write_counted g c =
    let end = c.from_residual-in_err-write_counted in
    writes_same _ _ end.result (claim-parts c.args.claim.now)
    (Writes-err end.result _ end.ensures.1
    (AddsBeginning-then c.in_ok-write_seat.ensures (AddsBeginning-then c.in_ok-write_all.ensures (AddsBeginning-stop _ (rw c.from.ensures at c.in_err-write_counted.ensures)))))

pub returns : goal.returns
returns g c =
    let end = c.write_roots.result in
    writes_same _ _ end (claim-parts c.args.claim.now)
    (Writes-then end _ _ c.in_ok-write_seat.ensures (Writes-then end _ _ c.in_ok-write_all.ensures
    (Writes-then end _ _ (rw c.from.ensures at c.in_ok-write_counted.ensures) c.write_roots.ensures)))
