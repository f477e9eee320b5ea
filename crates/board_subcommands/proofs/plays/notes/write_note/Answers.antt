use Rattle.cards.proofs.WriteLemmas.{AddsBeginning-stop, Writes-then, Writes-err}
use Rattle.board_subcommands.proofs.plays.notes.write_note.Goals as goal

pub returns-in_err-write_all : goal.returns-in_err-write_all
returns-in_err-write_all g c = Writes-err c.from_residual.result _ c.from_residual.ensures.1 (AddsBeginning-stop _ c.in_err-write_all.ensures)

pub returns : goal.returns
returns g c = Writes-then c.write_counted.result _ _ c.in_ok-write_all.ensures c.write_counted.ensures
