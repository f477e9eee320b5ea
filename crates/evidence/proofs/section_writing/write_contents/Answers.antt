use Rattle.std.proofs.Common.{sym, ◌∙◌, ap}
use Rattle.cards.proofs.WriteLemmas.{AddsBeginning-stop, Writes-then, Writes-err}
use Rattle.certificate_graph.proofs.WriteLemmas.{writes_same}
use Rattle.evidence.specs.SectionTexts.{graphs_text, section_text}
use Rattle.evidence.proofs.SectionLemmas.{head-cut}
use Rattle.evidence.proofs.section_writing.write_contents.Goals as goal

pub returns-in_err-write_head : goal.returns-in_err-write_head
returns-in_err-write_head g c =
    let parts = c.contents.inside in
    let end = c.from_residual in
    let whole = sym (head-cut parts.layout.now parts.trump parts.claims.now (graphs_text parts.ns.now parts.ew.now)) ∙ ap section_text c.contents.view_is in
    writes_same _ _ end.result whole (Writes-err end.result _ end.ensures.1 (AddsBeginning-stop _ c.in_err-write_head.ensures))

pub returns : goal.returns
returns g c =
    let parts = c.contents.inside in
    let whole = sym (head-cut parts.layout.now parts.trump parts.claims.now (graphs_text parts.ns.now parts.ew.now)) ∙ ap section_text c.contents.view_is in
    writes_same _ _ c.write_graphs.result whole (Writes-then c.write_graphs.result _ _ c.in_ok-write_head.ensures c.write_graphs.ensures)
