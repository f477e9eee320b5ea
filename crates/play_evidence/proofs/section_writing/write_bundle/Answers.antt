use Rattle.cards.proofs.WriteLemmas.{AddsBeginning-stop, AddsBeginning-then, Writes-then, Writes-err}
use Rattle.certificate_graph.proofs.WriteLemmas.{writes_same}
use Rattle.play_evidence.specs.Sections.{nodes_of}
use Rattle.play_evidence.proofs.WriteParts.{bundle-parts}
use Rattle.play_evidence.proofs.section_writing.write_bundle.Goals as goal

pub returns-in_err-write_claims : goal.returns-in_err-write_claims
returns-in_err-write_claims g c =
    let end = c.from_residual in
    let bundle = c.args.bundle.now in
    writes_same _ _ end.result (bundle-parts bundle.claims.items (nodes_of bundle.ns) (nodes_of bundle.ew))
    (Writes-err end.result _ end.ensures.1 (AddsBeginning-stop _ (rw c.as_slice.ensures.value at c.in_err-write_claims.ensures)))

pub returns-in_err-write_begun : goal.returns-in_err-write_begun
returns-in_err-write_begun g c =
    let end = c.from_residual-in_err-write_begun in
    let bundle = c.args.bundle.now in
    writes_same _ _ end.result (bundle-parts bundle.claims.items (nodes_of bundle.ns) (nodes_of bundle.ew))
    (Writes-err end.result _ end.ensures.1
    (AddsBeginning-then (rw c.as_slice.ensures.value at c.in_ok-write_claims.ensures) (AddsBeginning-stop _ (rw c.as_slice-2.ensures.value at c.in_err-write_begun.ensures))))

pub returns-in_err-write_begun-2 : goal.returns-in_err-write_begun-2
returns-in_err-write_begun-2 g c =
    let end = c.from_residual-in_err-write_begun-2 in
    let bundle = c.args.bundle.now in
    writes_same _ _ end.result (bundle-parts bundle.claims.items (nodes_of bundle.ns) (nodes_of bundle.ew))
    (Writes-err end.result _ end.ensures.1
    (AddsBeginning-then (rw c.as_slice.ensures.value at c.in_ok-write_claims.ensures) (AddsBeginning-then (rw c.as_slice-2.ensures.value at c.in_ok-write_begun.ensures)
    (AddsBeginning-stop _ (rw c.as_slice-3.ensures.value at c.in_err-write_begun-2.ensures)))))

pub returns : goal.returns
returns g c =
    let end = c.write_graphs.result in
    let bundle = c.args.bundle.now in
    writes_same _ _ end (bundle-parts bundle.claims.items (nodes_of bundle.ns) (nodes_of bundle.ew))
    (Writes-then end _ _ (rw c.as_slice.ensures.value at c.in_ok-write_claims.ensures) (Writes-then end _ _ (rw c.as_slice-2.ensures.value at c.in_ok-write_begun.ensures)
    (Writes-then end _ _ (rw c.as_slice-3.ensures.value at c.in_ok-write_begun-2.ensures) (rw (c.deref.ensures, c.deref-2.ensures) at c.write_graphs.ensures))))
