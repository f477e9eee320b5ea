use Rattle.cards.proofs.WriteLemmas.{AddsBeginning-stop, Writes-then, Writes-err}
use Rattle.certificate_graph.proofs.WriteLemmas.{writes_same}
use Rattle.play_evidence.proofs.WriteParts.{claims-first}
use Rattle.play_evidence.proofs.section_writing.+write_each_claim.Goals as goal

pub returns-in_err-write_claim-in-len1-up : goal.returns-in_err-write_claim-in-len1-up
returns-in_err-write_claim-in-len1-up g t c =
    let end = c.from_residual in
    writes_same _ _ end.result (claims-first c.args.claims.now c.in-len1-up.len_at_least)
    (Writes-err end.result _ end.ensures.1 (AddsBeginning-stop _ c.in_err-write_claim-in-len1-up.ensures))

pub returns-in_ok-write_claim-in-len1-up : goal.returns-in_ok-write_claim-in-len1-up
returns-in_ok-write_claim-in-len1-up g t c =
    let end = c.write_each_claim.result in
    writes_same _ _ end (claims-first c.args.claims.now c.in-len1-up.len_at_least)
    (Writes-then end _ _ c.in_ok-write_claim-in-len1-up.ensures c.write_each_claim.ensures)
