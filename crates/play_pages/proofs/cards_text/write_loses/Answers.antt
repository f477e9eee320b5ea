use Rattle.cards.proofs.WriteLemmas.{AddsBeginning-stop, AddsBeginning-then, Writes-then, Writes-err}
use Rattle.play_pages.specs.Texts.{loses_text}
use Rattle.play_pages.proofs.cards_text.write_loses.Goals as goal

pub returns-in_err-write_all : goal.returns-in_err-write_all
unfolding loses_text
returns-in_err-write_all g c =
    Writes-err c.from_residual.result _ c.from_residual.ensures.1
    (AddsBeginning-stop _ c.in_err-write_all.ensures)

pub returns-in_err-write_all-2 : goal.returns-in_err-write_all-2
unfolding loses_text
returns-in_err-write_all-2 g c =
    Writes-err c.from_residual-in_err-write_all-2.result _ c.from_residual-in_err-write_all-2.ensures.1
    (AddsBeginning-then c.in_ok-write_all.ensures (AddsBeginning-stop _ (rw (c.as_bytes.ensures.value, c.letter.ensures) at c.in_err-write_all-2.ensures)))

pub returns-in_err-write_all-3 : goal.returns-in_err-write_all-3
unfolding loses_text
returns-in_err-write_all-3 g c =
    Writes-err c.from_residual-in_err-write_all-3.result _ c.from_residual-in_err-write_all-3.ensures.1
    (AddsBeginning-then c.in_ok-write_all.ensures (AddsBeginning-then (rw (c.as_bytes.ensures.value, c.letter.ensures) at c.in_ok-write_all-2.ensures) (AddsBeginning-stop _ c.in_err-write_all-3.ensures)))

pub returns : goal.returns
unfolding loses_text
returns g c =
    let last = c.write_number.result in
    Writes-then last _ _ c.in_ok-write_all.ensures (Writes-then last _ _ (rw (c.as_bytes.ensures.value, c.letter.ensures) at c.in_ok-write_all-2.ensures) (Writes-then last _ _ c.in_ok-write_all-3.ensures c.write_number.ensures))
