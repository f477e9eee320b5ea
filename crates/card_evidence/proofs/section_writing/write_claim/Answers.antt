use Rattle.cards.proofs.WriteLemmas.{AddsBeginning-stop, AddsBeginning-then, Writes-then, Writes-err}
use Rattle.certificate_graph.proofs.WriteLemmas.{writes_same}
use Rattle.card_evidence.proofs.WriteParts.{claim-parts}
use Rattle.card_evidence.proofs.section_writing.write_claim.Goals as goal

pub returns-in_err-write_claim_line : goal.returns-in_err-write_claim_line
returns-in_err-write_claim_line g c =
    let end = c.from_residual in
    writes_same _ _ end.result (claim-parts c.args.claim.now) (Writes-err end.result _ end.ensures.1 (AddsBeginning-stop _ c.in_err-write_claim_line.ensures))

pub returns-in_err-write_begun : goal.returns-in_err-write_begun
returns-in_err-write_begun g c =
    let end = c.from_residual-in_err-write_begun in
    writes_same _ _ end.result (claim-parts c.args.claim.now)
    (Writes-err end.result _ end.ensures.1
    (AddsBeginning-then c.in_ok-write_claim_line.ensures (AddsBeginning-stop _ (rw c.as_ref.ensures.value at c.in_err-write_begun.ensures))))

pub returns : goal.returns
returns g c =
    let end = c.write_begun-2.result in
    writes_same _ _ end (claim-parts c.args.claim.now)
    (Writes-then end _ _ c.in_ok-write_claim_line.ensures
    (Writes-then end _ _ (rw c.as_ref.ensures.value at c.in_ok-write_begun.ensures) (rw c.as_ref-2.ensures.value at c.write_begun-2.ensures)))
