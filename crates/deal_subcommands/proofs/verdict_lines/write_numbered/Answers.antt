use Rattle.cards.proofs.WriteLemmas.{AddsBeginning-stop, AddsBeginning-then, Writes-then, Writes-err}
use Rattle.deal_subcommands.proofs.verdict_lines.write_numbered.Goals as goal

pub returns-in_err-write_number : goal.returns-in_err-write_number
returns-in_err-write_number g c =
    let number = rw c.from.ensures at c.in_err-write_number.ensures in
    Writes-err c.from_residual.result _ c.from_residual.ensures.1 (AddsBeginning-stop _ number)

pub returns-in_err-write_all : goal.returns-in_err-write_all
returns-in_err-write_all g c =
    let number = rw c.from.ensures at c.in_ok-write_number.ensures in
    Writes-err c.from_residual-in_err-write_all.result _ c.from_residual-in_err-write_all.ensures.1
    (AddsBeginning-then number (AddsBeginning-stop _ c.in_err-write_all.ensures))

pub returns : goal.returns
returns g c =
    let number = rw c.from.ensures at c.in_ok-write_number.ensures in
    let name = rw c.as_bytes.ensures.value at c.write_all-2.ensures in
    Writes-then c.write_all-2.result _ _ number (Writes-then c.write_all-2.result _ _ c.in_ok-write_all.ensures name)
