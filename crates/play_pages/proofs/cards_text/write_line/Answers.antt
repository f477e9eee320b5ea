use Rattle.cards.proofs.WriteLemmas.{AddsBeginning-stop, AddsBeginning-then, Writes-then, Writes-err}
use Rattle.play_pages.specs.Texts.{line_text}
use Rattle.play_pages.proofs.cards_text.write_line.Goals as goal

pub returns-in_err-write_number : goal.returns-in_err-write_number
unfolding line_text
returns-in_err-write_number g c =
    Writes-err c.from_residual.result _ c.from_residual.ensures.1
    (AddsBeginning-stop _ c.in_err-write_number.ensures)

pub returns-in_err-write_all : goal.returns-in_err-write_all
unfolding line_text
returns-in_err-write_all g c =
    Writes-err c.from_residual-in_err-write_all.result _ c.from_residual-in_err-write_all.ensures.1
    (AddsBeginning-then c.in_ok-write_number.ensures (AddsBeginning-stop _ c.in_err-write_all.ensures))

pub returns-in_err-write_all-2 : goal.returns-in_err-write_all-2
unfolding line_text
returns-in_err-write_all-2 g c =
    Writes-err c.from_residual-in_err-write_all-2.result _ c.from_residual-in_err-write_all-2.ensures.1
    (AddsBeginning-then c.in_ok-write_number.ensures (AddsBeginning-then c.in_ok-write_all.ensures (AddsBeginning-stop _ (rw (c.as_bytes.ensures.value, c.letter.ensures) at c.in_err-write_all-2.ensures))))

pub returns-in_err-write_card : goal.returns-in_err-write_card
unfolding line_text
returns-in_err-write_card g c =
    Writes-err c.from_residual-in_err-write_card.result _ c.from_residual-in_err-write_card.ensures.1
    (AddsBeginning-then c.in_ok-write_number.ensures (AddsBeginning-then c.in_ok-write_all.ensures (AddsBeginning-then (rw (c.as_bytes.ensures.value, c.letter.ensures) at c.in_ok-write_all-2.ensures) (AddsBeginning-stop _ c.in_err-write_card.ensures))))

pub returns-in_err-write_all-3 : goal.returns-in_err-write_all-3
unfolding line_text
returns-in_err-write_all-3 g c =
    Writes-err c.from_residual-in_err-write_all-3.result _ c.from_residual-in_err-write_all-3.ensures.1
    (AddsBeginning-then c.in_ok-write_number.ensures (AddsBeginning-then c.in_ok-write_all.ensures (AddsBeginning-then (rw (c.as_bytes.ensures.value, c.letter.ensures) at c.in_ok-write_all-2.ensures) (AddsBeginning-then c.in_ok-write_card.ensures (AddsBeginning-stop _ c.in_err-write_all-3.ensures)))))

pub returns-in_err-write_known : goal.returns-in_err-write_known
unfolding line_text
returns-in_err-write_known g c =
    Writes-err c.from_residual-in_err-write_known.result _ c.from_residual-in_err-write_known.ensures.1
    (AddsBeginning-then c.in_ok-write_number.ensures (AddsBeginning-then c.in_ok-write_all.ensures (AddsBeginning-then (rw (c.as_bytes.ensures.value, c.letter.ensures) at c.in_ok-write_all-2.ensures) (AddsBeginning-then c.in_ok-write_card.ensures (AddsBeginning-then c.in_ok-write_all-3.ensures (AddsBeginning-stop _ (rw c.wide.ensures at c.in_err-write_known.ensures)))))))

pub returns-in_err-write_loss : goal.returns-in_err-write_loss
unfolding line_text
returns-in_err-write_loss g c =
    Writes-err c.from_residual-in_err-write_loss.result _ c.from_residual-in_err-write_loss.ensures.1
    (AddsBeginning-then c.in_ok-write_number.ensures (AddsBeginning-then c.in_ok-write_all.ensures (AddsBeginning-then (rw (c.as_bytes.ensures.value, c.letter.ensures) at c.in_ok-write_all-2.ensures) (AddsBeginning-then c.in_ok-write_card.ensures (AddsBeginning-then c.in_ok-write_all-3.ensures (AddsBeginning-then (rw c.wide.ensures at c.in_ok-write_known.ensures) (AddsBeginning-stop _ c.in_err-write_loss.ensures)))))))

pub returns : goal.returns
unfolding line_text
returns g c =
    let last = c.write_all-4.result in
    Writes-then last _ _ c.in_ok-write_number.ensures (Writes-then last _ _ c.in_ok-write_all.ensures (Writes-then last _ _ (rw (c.as_bytes.ensures.value, c.letter.ensures) at c.in_ok-write_all-2.ensures) (Writes-then last _ _ c.in_ok-write_card.ensures (Writes-then last _ _ c.in_ok-write_all-3.ensures (Writes-then last _ _ (rw c.wide.ensures at c.in_ok-write_known.ensures) (Writes-then last _ _ c.in_ok-write_loss.ensures c.write_all-4.ensures))))))
