use Rattle.cards.proofs.WriteLemmas.{AddsBeginning-stop, Writes-then, Writes-err}
use Rattle.certificate_graph.proofs.WriteLemmas.{writes_same}
use Rattle.play_evidence.specs.Sections.{parts_of}
use Rattle.play_evidence.proofs.WriteParts.{section-parts}
use Rattle.play_evidence.proofs.section_writing.write_play_section.Goals as goal

pub returns-in_err-write_play : goal.returns-in_err-write_play
returns-in_err-write_play g c =
    let end = c.from_residual in
    writes_same _ _ end.result (section-parts (parts_of c.args.contents.now) _) (Writes-err end.result _ end.ensures.1 (AddsBeginning-stop _ c.in_err-write_play.ensures))

pub returns : goal.returns
returns g c =
    let end = c.write_bundle.result in
    writes_same _ _ end (section-parts (parts_of c.args.contents.now) _) (Writes-then end _ _ c.in_ok-write_play.ensures c.write_bundle.ensures)
