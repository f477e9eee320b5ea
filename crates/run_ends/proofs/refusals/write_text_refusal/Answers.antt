use Rattle.std.proofs.Common.{◌≡◌, ◌∙◌, Some, sym}
use Rattle.std.specs.Prelude.{codes}
use Rattle.std.specs.Fmt.{decimal}
use Rattle.pbn_deals.specs.Faults.{fault_line, fault_text}
use Rattle.cards.proofs.DeviceLemmas.{Adds-twice}
use Rattle.cards.proofs.WriteLemmas.{AddsBeginning-stop, AddsBeginning-then, Writes-then, Writes-err}
use Rattle.run_ends.proofs.refusals.write_text_refusal.Goals as goal

pub returns-in_err-write_all : goal.returns-in_err-write_all
returns-in_err-write_all g c =
    let line : fault_line c.args.refusal ≡ Some c.in-Some.line = sym c.line.ensures ∙ c.in-Some.is in
    rw line
    (Writes-err c.from_residual.result _ c.from_residual.ensures.1
    (AddsBeginning-stop (fault_text c.args.refusal)
    (AddsBeginning-stop (codes ": ") (AddsBeginning-stop (decimal c.in-Some.line) c.in_err-write_all.ensures))))

pub returns-in_err-write_number : goal.returns-in_err-write_number
returns-in_err-write_number g c =
    let line : fault_line c.args.refusal ≡ Some c.in-Some.line = sym c.line.ensures ∙ c.in-Some.is in
    rw line
    (Writes-err c.from_residual-in_err-write_number.result _ c.from_residual-in_err-write_number.ensures.1
    (AddsBeginning-stop (fault_text c.args.refusal)
    (AddsBeginning-stop (codes ": ") (AddsBeginning-then c.in_ok-write_all.ensures c.in_err-write_number.ensures))))

pub returns-in_err-write_all-2 : goal.returns-in_err-write_all-2
returns-in_err-write_all-2 g c =
    let line : fault_line c.args.refusal ≡ Some c.in-Some.line = sym c.line.ensures ∙ c.in-Some.is in
    rw line
    (Writes-err c.from_residual-in_err-write_all-2.result _ c.from_residual-in_err-write_all-2.ensures.1
    (AddsBeginning-stop (fault_text c.args.refusal) (AddsBeginning-then (Adds-twice c.in_ok-write_all.ensures c.in_ok-write_number.ensures) c.in_err-write_all-2.ensures)))

pub returns : goal.returns
returns g c =
    let line : fault_line c.args.refusal ≡ Some c.in-Some.line = sym c.line.ensures ∙ c.in-Some.is in
    rw line
    (Writes-then c.write_refusal-2.result _ _
    (Adds-twice (Adds-twice c.in_ok-write_all.ensures c.in_ok-write_number.ensures) c.in_ok-write_all-2.ensures)
    c.write_refusal-2.ensures)
