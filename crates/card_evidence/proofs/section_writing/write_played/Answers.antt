use Rattle.cards.proofs.WriteLemmas.{AddsBeginning-stop, AddsBeginning-then, Writes-then, Writes-err}
use Rattle.certificate_graph.proofs.WriteLemmas.{writes_same}
use Rattle.card_evidence.proofs.WriteParts.{played-parts}
use Rattle.card_evidence.proofs.section_writing.write_played.Goals as goal

pub returns-in_err-write_all : goal.returns-in_err-write_all
returns-in_err-write_all g c = Writes-err c.from_residual.result _ c.from_residual.ensures.1 (AddsBeginning-stop _ c.in_err-write_all.ensures)

pub returns-in_err-write_number : goal.returns-in_err-write_number
returns-in_err-write_number g c =
    let end = c.from_residual-in_err-write_number in
    writes_same _ _ end.result (played-parts c.args.cards.now)
    (Writes-err end.result _ end.ensures.1 (AddsBeginning-then c.in_ok-write_all.ensures (AddsBeginning-stop _ c.in_err-write_number.ensures)))

pub returns-in_err-write_cards : goal.returns-in_err-write_cards
returns-in_err-write_cards g c =
    let end = c.from_residual-in_err-write_cards in
    writes_same _ _ end.result (played-parts c.args.cards.now)
    (Writes-err end.result _ end.ensures.1
    (AddsBeginning-then c.in_ok-write_all.ensures (AddsBeginning-then c.in_ok-write_number.ensures (AddsBeginning-stop _ c.in_err-write_cards.ensures))))

pub returns : goal.returns
returns g c =
    let end = c.write_all-2.result in
    writes_same _ _ end (played-parts c.args.cards.now)
    (Writes-then end _ _ c.in_ok-write_all.ensures (Writes-then end _ _ c.in_ok-write_number.ensures
    (Writes-then end _ _ c.in_ok-write_cards.ensures c.write_all-2.ensures)))
