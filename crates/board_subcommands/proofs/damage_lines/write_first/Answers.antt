use Rattle.cards.proofs.WriteLemmas.{AddsBeginning-stop, Writes-then, Writes-err}
use Rattle.board_subcommands.proofs.damage_lines.write_first.Goals as goal

pub returns-in_err-write_number : goal.returns-in_err-write_number
returns-in_err-write_number g c = Writes-err c.from_residual.result _ c.from_residual.ensures.1 (AddsBeginning-stop _ c.in_err-write_number.ensures)

pub returns : goal.returns
returns g c = Writes-then c.write_all.result _ _ c.in_ok-write_number.ensures c.write_all.ensures
