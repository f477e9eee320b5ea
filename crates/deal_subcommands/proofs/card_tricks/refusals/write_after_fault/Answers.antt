use Rattle.cards.proofs.WriteLemmas.{AddsBeginning-stop, Writes-then, Writes-err}
use Rattle.deal_subcommands.proofs.card_tricks.refusals.write_after_fault.Goals as goal

pub returns-in-RootMissing : goal.returns-in-RootMissing
returns-in-RootMissing g c = rw c.in-RootMissing.is c.write_all.ensures

pub returns-in-RootNeedless : goal.returns-in-RootNeedless
returns-in-RootNeedless g c = rw c.in-RootNeedless.is c.write_all-in-RootNeedless.ensures

pub returns-in-RootPattern : goal.returns-in-RootPattern
returns-in-RootPattern g c = rw c.in-RootPattern.is c.write_all-in-RootPattern.ensures

pub returns-in_err-write_all-in-Begun : goal.returns-in_err-write_all-in-Begun
returns-in_err-write_all-in-Begun g c = rw c.in-Begun.is (Writes-err c.from_residual.result _ c.from_residual.ensures.1
    (AddsBeginning-stop _ c.in_err-write_all-in-Begun.ensures))

pub returns-in_err-write_all-in-Node : goal.returns-in_err-write_all-in-Node
returns-in_err-write_all-in-Node g c = rw c.in-Node.is (Writes-err c.from_residual-in_err-write_all-in-Node.result _
    c.from_residual-in_err-write_all-in-Node.ensures.1
    (AddsBeginning-stop _ c.in_err-write_all-in-Node.ensures))

pub returns-in_ok-write_all-in-Begun : goal.returns-in_ok-write_all-in-Begun
returns-in_ok-write_all-in-Begun g c =
    let numbered = rw c.number.ensures at (rw c.name.ensures at c.write_numbered.ensures) in
    rw c.in-Begun.is (Writes-then c.write_numbered.result _ _ c.in_ok-write_all-in-Begun.ensures numbered)

pub returns-in_ok-write_all-in-Node : goal.returns-in_ok-write_all-in-Node
returns-in_ok-write_all-in-Node g c =
    rw c.in-Node.is (Writes-then c.write_node_fault.result _ _ c.in_ok-write_all-in-Node.ensures c.write_node_fault.ensures)
