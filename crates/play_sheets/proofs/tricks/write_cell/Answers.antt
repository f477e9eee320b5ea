use Rattle.cards.proofs.WriteLemmas.{AddsBeginning-stop, AddsBeginning-then, Writes-then, Writes-err}
use Rattle.play_sheets.specs.Tricks.{cell_text}
use Rattle.play_sheets.proofs.tricks.write_cell.Goals as goal

pub returns-in_err-write_all : goal.returns-in_err-write_all
unfolding cell_text
returns-in_err-write_all g c =
    Writes-err c.from_residual.result _ c.from_residual.ensures.1
    (AddsBeginning-stop _ c.in_err-write_all.ensures)

pub returns-in_err-write_place : goal.returns-in_err-write_place
unfolding cell_text
returns-in_err-write_place g c =
    Writes-err c.from_residual-in_err-write_place.result _ c.from_residual-in_err-write_place.ensures.1
    (AddsBeginning-then c.in_ok-write_all.ensures (AddsBeginning-stop _ c.in_err-write_place.ensures))

pub returns-in_err-write_place-2 : goal.returns-in_err-write_place-2
unfolding cell_text
returns-in_err-write_place-2 g c =
    Writes-err c.from_residual-in_err-write_place-2.result _ c.from_residual-in_err-write_place-2.ensures.1
    (AddsBeginning-then c.in_ok-write_all.ensures (AddsBeginning-then c.in_ok-write_place.ensures (AddsBeginning-stop _ c.in_err-write_place-2.ensures)))

pub returns-in_err-write_place-3 : goal.returns-in_err-write_place-3
unfolding cell_text
returns-in_err-write_place-3 g c =
    Writes-err c.from_residual-in_err-write_place-3.result _ c.from_residual-in_err-write_place-3.ensures.1
    (AddsBeginning-then c.in_ok-write_all.ensures (AddsBeginning-then c.in_ok-write_place.ensures (AddsBeginning-then c.in_ok-write_place-2.ensures (AddsBeginning-stop _ c.in_err-write_place-3.ensures))))

pub returns-in_err-write_place-4 : goal.returns-in_err-write_place-4
unfolding cell_text
returns-in_err-write_place-4 g c =
    Writes-err c.from_residual-in_err-write_place-4.result _ c.from_residual-in_err-write_place-4.ensures.1
    (AddsBeginning-then c.in_ok-write_all.ensures (AddsBeginning-then c.in_ok-write_place.ensures (AddsBeginning-then c.in_ok-write_place-2.ensures (AddsBeginning-then c.in_ok-write_place-3.ensures (AddsBeginning-stop _ c.in_err-write_place-4.ensures)))))

pub returns : goal.returns
unfolding cell_text
returns g c =
    let last = c.write_all-2.result in
    Writes-then last _ _ c.in_ok-write_all.ensures (Writes-then last _ _ c.in_ok-write_place.ensures (Writes-then last _ _ c.in_ok-write_place-2.ensures (Writes-then last _ _ c.in_ok-write_place-3.ensures (Writes-then last _ _ c.in_ok-write_place-4.ensures c.write_all-2.ensures))))
