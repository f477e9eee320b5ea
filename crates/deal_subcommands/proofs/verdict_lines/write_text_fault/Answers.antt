use Rattle.cards.proofs.WriteLemmas.{AddsBeginning-stop, AddsBeginning-then, Writes-then, Writes-err}
use Rattle.deal_subcommands.proofs.verdict_lines.write_text_fault.Goals as goal

pub returns-in_err-write_all : goal.returns-in_err-write_all
returns-in_err-write_all g c = Writes-err c.from_residual.result _ c.from_residual.ensures.1 (AddsBeginning-stop _ c.in_err-write_all.ensures)

pub returns-in_err-write_numbered : goal.returns-in_err-write_numbered
returns-in_err-write_numbered g c =
    let numbered = rw c.number.ensures at (rw c.name.ensures at c.in_err-write_numbered.ensures) in
    Writes-err c.from_residual-in_err-write_numbered.result _ c.from_residual-in_err-write_numbered.ensures.1
    (AddsBeginning-then c.in_ok-write_all.ensures (AddsBeginning-stop _ numbered))

pub returns : goal.returns
returns g c =
    let numbered = rw c.number.ensures at (rw c.name.ensures at c.in_ok-write_numbered.ensures) in
    let after = rw c.line.ensures at c.write_after_text.ensures in
    Writes-then c.write_after_text.result _ _ c.in_ok-write_all.ensures
    (Writes-then c.write_after_text.result _ _ numbered after)
