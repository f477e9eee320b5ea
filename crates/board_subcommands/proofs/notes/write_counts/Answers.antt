use Rattle.cards.proofs.WriteLemmas.{AddsBeginning-stop, AddsBeginning-then, Writes-then, Writes-err}
use Rattle.board_subcommands.proofs.notes.write_counts.Goals as goal

pub returns-in_err-write_counted : goal.returns-in_err-write_counted
returns-in_err-write_counted g c = Writes-err c.from_residual.result _ c.from_residual.ensures.1 (AddsBeginning-stop _ c.in_err-write_counted.ensures)

pub returns-in_err-write_number : goal.returns-in_err-write_number
returns-in_err-write_number g c =
    Writes-err c.from_residual-in_err-write_number.result _ c.from_residual-in_err-write_number.ensures.1
    (AddsBeginning-then c.in_ok-write_counted.ensures (AddsBeginning-stop _ c.in_err-write_number.ensures))

pub returns-in_err-write_all : goal.returns-in_err-write_all
returns-in_err-write_all g c =
    Writes-err c.from_residual-in_err-write_all.result _ c.from_residual-in_err-write_all.ensures.1
    (AddsBeginning-then c.in_ok-write_counted.ensures
    (AddsBeginning-then c.in_ok-write_number.ensures (AddsBeginning-stop _ c.in_err-write_all.ensures)))

pub returns-in_err-write_counted-2 : goal.returns-in_err-write_counted-2
returns-in_err-write_counted-2 g c =
    Writes-err c.from_residual-in_err-write_counted-2.result _ c.from_residual-in_err-write_counted-2.ensures.1
    (AddsBeginning-then c.in_ok-write_counted.ensures
    (AddsBeginning-then c.in_ok-write_number.ensures
    (AddsBeginning-then c.in_ok-write_all.ensures (AddsBeginning-stop _ c.in_err-write_counted-2.ensures))))

pub returns : goal.returns
returns g c =
    let end = c.write_all-2.result in
    Writes-then end _ _ c.in_ok-write_counted.ensures
    (Writes-then end _ _ c.in_ok-write_number.ensures
    (Writes-then end _ _ c.in_ok-write_all.ensures
    (Writes-then end _ _ c.in_ok-write_counted-2.ensures c.write_all-2.ensures)))
