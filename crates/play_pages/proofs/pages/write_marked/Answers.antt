use Rattle.cards.proofs.WriteLemmas.{AddsBeginning-stop, AddsBeginning-then, Writes-then, Writes-err}
use Rattle.play_pages.specs.Texts.{marked_text}
use Rattle.play_pages.proofs.pages.write_marked.Goals as goal

pub returns-in_err-write_all : goal.returns-in_err-write_all
unfolding marked_text
returns-in_err-write_all g c =
    Writes-err c.from_residual.result _ c.from_residual.ensures.1
    (AddsBeginning-stop _ c.in_err-write_all.ensures)

pub returns-in_err-write_known : goal.returns-in_err-write_known
unfolding marked_text
returns-in_err-write_known g c =
    Writes-err c.from_residual-in_err-write_known.result _ c.from_residual-in_err-write_known.ensures.1
    (AddsBeginning-then c.in_ok-write_all.ensures (AddsBeginning-stop _ (rw c.wide.ensures at c.in_err-write_known.ensures)))

pub returns : goal.returns
unfolding marked_text
returns g c =
    let last = c.write_all-2.result in
    Writes-then last _ _ c.in_ok-write_all.ensures (Writes-then last _ _ (rw c.wide.ensures at c.in_ok-write_known.ensures) c.write_all-2.ensures)
