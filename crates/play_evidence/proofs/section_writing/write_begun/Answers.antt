use Rattle.cards.proofs.WriteLemmas.{AddsBeginning-stop, AddsBeginning-then, Writes-then, Writes-err}
use Rattle.certificate_graph.proofs.WriteLemmas.{writes_same}
use Rattle.play_evidence.proofs.WriteParts.{begun-parts}
use Rattle.play_evidence.proofs.section_writing.write_begun.Goals as goal

pub returns-in_err-write_all : goal.returns-in_err-write_all
returns-in_err-write_all g c =
    let end = c.from_residual in
    writes_same _ _ end.result (begun-parts c.args.nodes.now) (Writes-err end.result _ end.ensures.1 (AddsBeginning-stop _ c.in_err-write_all.ensures))

pub returns-in_err-write_counted : goal.returns-in_err-write_counted
returns-in_err-write_counted g c =
    let end = c.from_residual-in_err-write_counted in
    writes_same _ _ end.result (begun-parts c.args.nodes.now)
    (Writes-err end.result _ end.ensures.1 (AddsBeginning-then c.in_ok-write_all.ensures (AddsBeginning-stop _ c.in_err-write_counted.ensures)))

pub returns : goal.returns
returns g c =
    let end = c.write_each_node.result in
    writes_same _ _ end (begun-parts c.args.nodes.now)
    (Writes-then end _ _ c.in_ok-write_all.ensures (Writes-then end _ _ c.in_ok-write_counted.ensures c.write_each_node.ensures))
