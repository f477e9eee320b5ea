use Rattle.std.proofs.Common.{arith}
use Rattle.cards.proofs.WriteLemmas.{AddsBeginning-piece, Writes-err}
use Rattle.par.specs.Texts.{next_text}
use Rattle.par.proofs.TextLaws.{some}
use Rattle.par.proofs.texts.write_others.Goals as goal

pub returns-in_err-write_next : goal.returns-in_err-write_next
returns-in_err-write_next g c =
    Writes-err c.from_residual.result _ c.from_residual.ensures.1
    (AddsBeginning-piece next_text c.args.contracts.now c.loop-contract.contract-index some (omega arith)
    c.loop-contract.invariant c.in_err-write_next.ensures)
