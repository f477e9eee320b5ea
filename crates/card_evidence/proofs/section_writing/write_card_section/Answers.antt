use Rattle.cards.proofs.WriteLemmas.{AddsBeginning-stop, AddsBeginning-then, Writes-then, Writes-err}
use Rattle.certificate_graph.proofs.WriteLemmas.{writes_same}
use Rattle.card_evidence.proofs.WriteParts.{section-parts}
use Rattle.card_evidence.proofs.section_writing.write_card_section.Goals as goal

pub returns-in_err-write_trick : goal.returns-in_err-write_trick
returns-in_err-write_trick g c =
    let end = c.from_residual in
    writes_same _ _ end.result (section-parts c.args.section.now) (Writes-err end.result _ end.ensures.1 (AddsBeginning-stop _ (rw c.trick.ensures at c.in_err-write_trick.ensures)))

pub returns-in_err-write_claims : goal.returns-in_err-write_claims
returns-in_err-write_claims g c =
    let end = c.from_residual-in_err-write_claims in
    writes_same _ _ end.result (section-parts c.args.section.now)
    (Writes-err end.result _ end.ensures.1
    (AddsBeginning-then (rw c.trick.ensures at c.in_ok-write_trick.ensures) (AddsBeginning-stop _ (rw c.claims.ensures at c.in_err-write_claims.ensures))))

pub returns : goal.returns
returns g c =
    let end = c.write_graphs.result in
    writes_same _ _ end (section-parts c.args.section.now)
    (Writes-then end _ _ (rw c.trick.ensures at c.in_ok-write_trick.ensures)
    (Writes-then end _ _ (rw c.claims.ensures at c.in_ok-write_claims.ensures) (rw (c.ns.ensures, c.ew.ensures) at c.write_graphs.ensures)))
