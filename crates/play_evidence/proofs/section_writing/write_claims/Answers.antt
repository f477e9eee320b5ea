use Rattle.cards.proofs.WriteLemmas.{AddsBeginning-stop, Writes-then, Writes-err}
use Rattle.certificate_graph.proofs.WriteLemmas.{writes_same}
use Rattle.play_evidence.proofs.WriteParts.{counted-parts}
use Rattle.play_evidence.proofs.section_writing.write_claims.Goals as goal

pub returns-in_err-write_count : goal.returns-in_err-write_count
returns-in_err-write_count g c =
    let end = c.from_residual in
    writes_same _ _ end.result (counted-parts c.args.claims.now) (Writes-err end.result _ end.ensures.1 (AddsBeginning-stop _ c.in_err-write_count.ensures))

pub returns : goal.returns
returns g c =
    let end = c.write_each_claim.result in
    writes_same _ _ end (counted-parts c.args.claims.now) (Writes-then end _ _ c.in_ok-write_count.ensures c.write_each_claim.ensures)
