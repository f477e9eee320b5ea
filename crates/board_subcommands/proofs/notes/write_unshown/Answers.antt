use Rattle.cards.proofs.WriteLemmas.{AddsBeginning-stop, Writes-then, Writes-err}
use Rattle.board_subcommands.proofs.notes.write_unshown.Goals as goal

pub returns-in_err-write_table_count : goal.returns-in_err-write_table_count
returns-in_err-write_table_count g c = Writes-err c.from_residual.result _ c.from_residual.ensures.1 (AddsBeginning-stop _ c.in_err-write_table_count.ensures)

pub returns : goal.returns
returns g c = Writes-then c.write_all.result _ _ c.in_ok-write_table_count.ensures c.write_all.ensures
