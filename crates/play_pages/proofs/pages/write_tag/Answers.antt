use Rattle.cards.proofs.WriteLemmas.{AddsBeginning-stop, AddsBeginning-then, Writes-then, Writes-err}
use Rattle.play_pages.proofs.pages.write_tag.Goals as goal

pub returns-in_err-write_all : goal.returns-in_err-write_all
returns-in_err-write_all g c =
    Writes-err c.from_residual.result _ c.from_residual.ensures.1
    (AddsBeginning-stop _ c.in_err-write_all.ensures)

pub returns-in_err-write_all-2 : goal.returns-in_err-write_all-2
returns-in_err-write_all-2 g c =
    Writes-err c.from_residual-in_err-write_all-2.result _ c.from_residual-in_err-write_all-2.ensures.1
    (AddsBeginning-then c.in_ok-write_all.ensures (AddsBeginning-stop _ c.in_err-write_all-2.ensures))

pub returns : goal.returns
returns g c =
    let last = c.write_all-3.result in
    Writes-then last _ _ c.in_ok-write_all.ensures (Writes-then last _ _ c.in_ok-write_all-2.ensures c.write_all-3.ensures)
