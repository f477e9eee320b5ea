use Rattle.cards.proofs.WriteLemmas.{AddsBeginning-stop, AddsBeginning-then, Writes-then, Writes-err}
use Rattle.play_pages.specs.Texts.{lost_text}
use Rattle.play_pages.proofs.pages.write_lost.Goals as goal

pub returns-in_err-write_all : goal.returns-in_err-write_all
unfolding lost_text
returns-in_err-write_all g c =
    Writes-err c.from_residual.result _ c.from_residual.ensures.1
    (AddsBeginning-stop _ c.in_err-write_all.ensures)

pub returns-in_err-write_total : goal.returns-in_err-write_total
unfolding lost_text
returns-in_err-write_total g c =
    Writes-err c.from_residual-in_err-write_total.result _ c.from_residual-in_err-write_total.ensures.1
    (AddsBeginning-then c.in_ok-write_all.ensures (AddsBeginning-stop _ c.in_err-write_total.ensures))

pub returns-in_err-write_total-2 : goal.returns-in_err-write_total-2
unfolding lost_text
returns-in_err-write_total-2 g c =
    Writes-err c.from_residual-in_err-write_total-2.result _ c.from_residual-in_err-write_total-2.ensures.1
    (AddsBeginning-then c.in_ok-write_all.ensures (AddsBeginning-then c.in_ok-write_total.ensures (AddsBeginning-stop _ c.in_err-write_total-2.ensures)))

pub returns-in_err-write_total-3 : goal.returns-in_err-write_total-3
unfolding lost_text
returns-in_err-write_total-3 g c =
    Writes-err c.from_residual-in_err-write_total-3.result _ c.from_residual-in_err-write_total-3.ensures.1
    (AddsBeginning-then c.in_ok-write_all.ensures (AddsBeginning-then c.in_ok-write_total.ensures (AddsBeginning-then c.in_ok-write_total-2.ensures (AddsBeginning-stop _ c.in_err-write_total-3.ensures))))

pub returns-in_err-write_total-4 : goal.returns-in_err-write_total-4
unfolding lost_text
returns-in_err-write_total-4 g c =
    Writes-err c.from_residual-in_err-write_total-4.result _ c.from_residual-in_err-write_total-4.ensures.1
    (AddsBeginning-then c.in_ok-write_all.ensures (AddsBeginning-then c.in_ok-write_total.ensures (AddsBeginning-then c.in_ok-write_total-2.ensures (AddsBeginning-then c.in_ok-write_total-3.ensures (AddsBeginning-stop _ c.in_err-write_total-4.ensures)))))

pub returns : goal.returns
unfolding lost_text
returns g c =
    let last = c.write_all-2.result in
    Writes-then last _ _ c.in_ok-write_all.ensures (Writes-then last _ _ c.in_ok-write_total.ensures (Writes-then last _ _ c.in_ok-write_total-2.ensures (Writes-then last _ _ c.in_ok-write_total-3.ensures (Writes-then last _ _ c.in_ok-write_total-4.ensures c.write_all-2.ensures))))
