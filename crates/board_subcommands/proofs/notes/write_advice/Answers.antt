use Rattle.cards.proofs.WriteLemmas.{AddsBeginning-stop, AddsBeginning-then, Writes-then, Writes-err}
use Rattle.board_subcommands.proofs.notes.write_advice.Goals as goal

pub returns-in_err-write_all : goal.returns-in_err-write_all
returns-in_err-write_all g c = Writes-err c.from_residual.result _ c.from_residual.ensures.1 (AddsBeginning-stop _ c.in_err-write_all.ensures)

pub returns-in_err-write_if : goal.returns-in_err-write_if
returns-in_err-write_if g c =
    Writes-err c.from_residual-in_err-write_if.result _ c.from_residual-in_err-write_if.ensures.1
    (AddsBeginning-then c.in_ok-write_all.ensures (AddsBeginning-stop _ c.in_err-write_if.ensures))

pub returns-in_err-write_if-2 : goal.returns-in_err-write_if-2
returns-in_err-write_if-2 g c =
    Writes-err c.from_residual-in_err-write_if-2.result _ c.from_residual-in_err-write_if-2.ensures.1
    (AddsBeginning-then c.in_ok-write_all.ensures
    (AddsBeginning-then c.in_ok-write_if.ensures (AddsBeginning-stop _ c.in_err-write_if-2.ensures)))

pub returns : goal.returns
returns g c =
    let end = c.write_all-2.result in
    Writes-then end _ _ c.in_ok-write_all.ensures
    (Writes-then end _ _ c.in_ok-write_if.ensures
    (Writes-then end _ _ c.in_ok-write_if-2.ensures c.write_all-2.ensures))
