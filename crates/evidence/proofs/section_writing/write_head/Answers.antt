use Rattle.cards.proofs.WriteLemmas.{AddsBeginning-stop, AddsBeginning-then, Writes-then, Writes-err}
use Rattle.certificate_graph.proofs.WriteLemmas.{writes_same}
use Rattle.evidence.proofs.WriteParts.{head-parts}
use Rattle.evidence.proofs.section_writing.write_head.Goals as goal

pub returns-in_err-write_deal : goal.returns-in_err-write_deal
returns-in_err-write_deal g c =
    let end = c.from_residual in
    writes_same _ _ end.result (head-parts c.args.layout.now c.args.trump c.args.claims.now) (Writes-err end.result _ end.ensures.1 (AddsBeginning-stop _ c.in_err-write_deal.ensures))

pub returns-in_err-write_trump : goal.returns-in_err-write_trump
returns-in_err-write_trump g c =
    let end = c.from_residual-in_err-write_trump in
    writes_same _ _ end.result (head-parts c.args.layout.now c.args.trump c.args.claims.now)
    (Writes-err end.result _ end.ensures.1 (AddsBeginning-then c.in_ok-write_deal.ensures (AddsBeginning-stop _ c.in_err-write_trump.ensures)))

pub returns-in_err-write_count : goal.returns-in_err-write_count
returns-in_err-write_count g c =
    let end = c.from_residual-in_err-write_count in
    writes_same _ _ end.result (head-parts c.args.layout.now c.args.trump c.args.claims.now)
    (Writes-err end.result _ end.ensures.1
    (AddsBeginning-then c.in_ok-write_deal.ensures (AddsBeginning-then c.in_ok-write_trump.ensures (AddsBeginning-stop _ c.in_err-write_count.ensures))))

pub returns : goal.returns
returns g c =
    let end = c.write_claims.result in
    writes_same _ _ end (head-parts c.args.layout.now c.args.trump c.args.claims.now)
    (Writes-then end _ _ c.in_ok-write_deal.ensures (Writes-then end _ _ c.in_ok-write_trump.ensures
    (Writes-then end _ _ c.in_ok-write_count.ensures c.write_claims.ensures)))
