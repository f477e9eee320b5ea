use Rattle.cards.proofs.WriteLemmas.{AddsBeginning-stop, AddsBeginning-then, Writes-then, Writes-err}
use Rattle.board_subcommands.proofs.damage_lines.write_damage.Goals as goal

pub returns-in_err-write_all : goal.returns-in_err-write_all
returns-in_err-write_all g c = Writes-err c.from_residual.result _ c.from_residual.ensures.1 (AddsBeginning-stop _ c.in_err-write_all.ensures)

pub returns-in_err-write_counted : goal.returns-in_err-write_counted
returns-in_err-write_counted g c =
    Writes-err c.from_residual-in_err-write_counted.result _ c.from_residual-in_err-write_counted.ensures.1
    (AddsBeginning-then c.in_ok-write_all.ensures (AddsBeginning-stop _ c.in_err-write_counted.ensures))

pub returns : goal.returns
returns g c =
    Writes-then c.write_first.result _ _ c.in_ok-write_all.ensures
    (Writes-then c.write_first.result _ _ c.in_ok-write_counted.ensures c.write_first.ensures)
