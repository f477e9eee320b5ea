use Rattle.cards.proofs.WriteLemmas.{AddsBeginning-stop, AddsBeginning-then, Writes-then, Writes-err}
use Rattle.deal_subcommands.proofs.verdict_lines.write_node_fault.Goals as goal

pub returns-in_err-write_all : goal.returns-in_err-write_all
returns-in_err-write_all g c = Writes-err c.from_residual.result _ c.from_residual.ensures.1 (AddsBeginning-stop _ c.in_err-write_all.ensures)

pub returns-in_err-write_number : goal.returns-in_err-write_number
returns-in_err-write_number g c =
    let number = rw c.from.ensures at c.in_err-write_number.ensures in
    Writes-err c.from_residual-in_err-write_number.result _ c.from_residual-in_err-write_number.ensures.1
    (AddsBeginning-then c.in_ok-write_all.ensures (AddsBeginning-stop _ number))

pub returns-in_err-write_all-2 : goal.returns-in_err-write_all-2
returns-in_err-write_all-2 g c =
    let number = rw c.from.ensures at c.in_ok-write_number.ensures in
    Writes-err c.from_residual-in_err-write_all-2.result _ c.from_residual-in_err-write_all-2.ensures.1
    (AddsBeginning-then c.in_ok-write_all.ensures (AddsBeginning-then number (AddsBeginning-stop _ c.in_err-write_all-2.ensures)))

pub returns : goal.returns
returns g c =
    let number = rw c.from.ensures at c.in_ok-write_number.ensures in
    let numbered = rw c.number.ensures at (rw c.name.ensures at c.write_numbered.ensures) in
    Writes-then c.write_numbered.result _ _ c.in_ok-write_all.ensures
    (Writes-then c.write_numbered.result _ _ number
    (Writes-then c.write_numbered.result _ _ c.in_ok-write_all-2.ensures numbered))
