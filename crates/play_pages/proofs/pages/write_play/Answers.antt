use Rattle.cards.proofs.WriteLemmas.{AddsBeginning-stop, AddsBeginning-then, Writes-then, Writes-err}
use Rattle.play_pages.specs.Texts.{play_text}
use Rattle.play_pages.proofs.pages.write_play.Goals as goal

pub returns-in_err-write_tag : goal.returns-in_err-write_tag
unfolding play_text
returns-in_err-write_tag g c =
    Writes-err c.from_residual.result _ c.from_residual.ensures.1
    (AddsBeginning-stop _ (rw (c.as_bytes.ensures.value, c.letter.ensures) at c.in_err-write_tag.ensures))

pub returns-in_err-write_tag-2 : goal.returns-in_err-write_tag-2
unfolding play_text
returns-in_err-write_tag-2 g c =
    Writes-err c.from_residual-in_err-write_tag-2.result _ c.from_residual-in_err-write_tag-2.ensures.1
    (AddsBeginning-then (rw (c.as_bytes.ensures.value, c.letter.ensures) at c.in_ok-write_tag.ensures) (AddsBeginning-stop _ c.in_err-write_tag-2.ensures))

pub returns-in_err-write_start : goal.returns-in_err-write_start
unfolding play_text
returns-in_err-write_start g c =
    Writes-err c.from_residual-in_err-write_start.result _ c.from_residual-in_err-write_start.ensures.1
    (AddsBeginning-then (rw (c.as_bytes.ensures.value, c.letter.ensures) at c.in_ok-write_tag.ensures) (AddsBeginning-then c.in_ok-write_tag-2.ensures (AddsBeginning-stop _ c.in_err-write_start.ensures)))

pub returns-in_err-write_lines : goal.returns-in_err-write_lines
unfolding play_text
returns-in_err-write_lines g c =
    Writes-err c.from_residual-in_err-write_lines.result _ c.from_residual-in_err-write_lines.ensures.1
    (AddsBeginning-then (rw (c.as_bytes.ensures.value, c.letter.ensures) at c.in_ok-write_tag.ensures) (AddsBeginning-then c.in_ok-write_tag-2.ensures (AddsBeginning-then c.in_ok-write_start.ensures (AddsBeginning-stop _ (rw c.as_slice-cards.ensures.value at c.in_err-write_lines.ensures)))))

pub returns-in_err-write_stop : goal.returns-in_err-write_stop
unfolding play_text
returns-in_err-write_stop g c =
    Writes-err c.from_residual-in_err-write_stop.result _ c.from_residual-in_err-write_stop.ensures.1
    (AddsBeginning-then (rw (c.as_bytes.ensures.value, c.letter.ensures) at c.in_ok-write_tag.ensures) (AddsBeginning-then c.in_ok-write_tag-2.ensures (AddsBeginning-then c.in_ok-write_start.ensures (AddsBeginning-then (rw c.as_slice-cards.ensures.value at c.in_ok-write_lines.ensures) (AddsBeginning-stop _ c.in_err-write_stop.ensures)))))

pub returns-in_err-write_end : goal.returns-in_err-write_end
unfolding play_text
returns-in_err-write_end g c =
    Writes-err c.from_residual-in_err-write_end.result _ c.from_residual-in_err-write_end.ensures.1
    (AddsBeginning-then (rw (c.as_bytes.ensures.value, c.letter.ensures) at c.in_ok-write_tag.ensures) (AddsBeginning-then c.in_ok-write_tag-2.ensures (AddsBeginning-then c.in_ok-write_start.ensures (AddsBeginning-then (rw c.as_slice-cards.ensures.value at c.in_ok-write_lines.ensures) (AddsBeginning-then c.in_ok-write_stop.ensures (AddsBeginning-stop _ c.in_err-write_end.ensures))))))

pub returns : goal.returns
unfolding play_text
returns g c =
    let last = c.write_lost.result in
    Writes-then last _ _ (rw (c.as_bytes.ensures.value, c.letter.ensures) at c.in_ok-write_tag.ensures) (Writes-then last _ _ c.in_ok-write_tag-2.ensures (Writes-then last _ _ c.in_ok-write_start.ensures (Writes-then last _ _ (rw c.as_slice-cards.ensures.value at c.in_ok-write_lines.ensures) (Writes-then last _ _ c.in_ok-write_stop.ensures (Writes-then last _ _ c.in_ok-write_end.ensures (rw c.as_slice-cards.ensures.value at c.write_lost.ensures))))))
