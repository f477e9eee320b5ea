use Rattle.cards.proofs.WriteLemmas.{AddsBeginning-stop, AddsBeginning-then, Writes-then, Writes-err}
use Rattle.certificate_graph.proofs.WriteLemmas.{writes_same}
use Rattle.play_evidence.specs.Sections.{parts_of}
use Rattle.play_evidence.proofs.WriteParts.{play-parts}
use Rattle.play_evidence.proofs.section_writing.write_play.Goals as goal

pub returns-in_err-write_deal : goal.returns-in_err-write_deal
returns-in_err-write_deal g c =
    let end = c.from_residual in
    writes_same _ _ end.result (play-parts (parts_of c.args.contents.now)) (Writes-err end.result _ end.ensures.1 (AddsBeginning-stop _ c.in_err-write_deal.ensures))

pub returns-in_err-write_trump : goal.returns-in_err-write_trump
returns-in_err-write_trump g c =
    let end = c.from_residual-in_err-write_trump in
    writes_same _ _ end.result (play-parts (parts_of c.args.contents.now))
    (Writes-err end.result _ end.ensures.1 (AddsBeginning-then c.in_ok-write_deal.ensures (AddsBeginning-stop _ c.in_err-write_trump.ensures)))

pub returns-in_err-write_leader : goal.returns-in_err-write_leader
returns-in_err-write_leader g c =
    let end = c.from_residual-in_err-write_leader in
    writes_same _ _ end.result (play-parts (parts_of c.args.contents.now))
    (Writes-err end.result _ end.ensures.1
    (AddsBeginning-then c.in_ok-write_deal.ensures (AddsBeginning-then c.in_ok-write_trump.ensures (AddsBeginning-stop _ c.in_err-write_leader.ensures))))

pub returns : goal.returns
returns g c =
    let end = c.write_played.result in
    writes_same _ _ end (play-parts (parts_of c.args.contents.now))
    (Writes-then end _ _ c.in_ok-write_deal.ensures (Writes-then end _ _ c.in_ok-write_trump.ensures
    (Writes-then end _ _ c.in_ok-write_leader.ensures c.write_played.ensures)))
