use Rattle.std.proofs.Common.{rules}
use Rattle.cards.proofs.WriteLemmas.{Adds-none, AddsBeginning-stop, Writes-then, Writes-err}
use Rattle.deal_subcommands.proofs.verdict_lines.write_after_text.Goals as goal

pub returns-in_err-write_all : goal.returns-in_err-write_all
returns-in_err-write_all g c = rw c.in-Some.is (Writes-err c.from_residual.result _ c.from_residual.ensures.1 (AddsBeginning-stop _ c.in_err-write_all.ensures))

pub returns : goal.returns
returns g c = rw c.in-Some.is (Writes-then c.write_number.result _ _ c.in_ok-write_all.ensures c.write_number.ensures)

pub returns-in_default : goal.returns-in_default
returns-in_default g c = search (rules, Adds-none)
