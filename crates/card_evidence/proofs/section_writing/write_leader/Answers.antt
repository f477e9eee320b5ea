use Rattle.cards.proofs.WriteLemmas.{AddsBeginning-stop, AddsBeginning-then, Writes-then, Writes-err}
use Rattle.card_evidence.proofs.section_writing.write_leader.Goals as goal

pub returns-in_err-write_all : goal.returns-in_err-write_all
returns-in_err-write_all g c = Writes-err c.from_residual.result _ c.from_residual.ensures.1 (AddsBeginning-stop _ c.in_err-write_all.ensures)

pub returns-in_err-write_seat : goal.returns-in_err-write_seat
returns-in_err-write_seat g c =
    let end = c.from_residual-in_err-write_seat in
    Writes-err end.result _ end.ensures.1 (AddsBeginning-then c.in_ok-write_all.ensures (AddsBeginning-stop _ c.in_err-write_seat.ensures))

pub returns : goal.returns
returns g c =
    let end = c.write_all-2.result in
    Writes-then end _ _ c.in_ok-write_all.ensures (Writes-then end _ _ c.in_ok-write_seat.ensures c.write_all-2.ensures)
