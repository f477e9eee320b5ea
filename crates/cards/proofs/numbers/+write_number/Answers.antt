use Rattle.std.proofs.Common.{arith}
use Rattle.std.proofs.lemmas.Fmt.{decimal_digit, decimal_step}
use Rattle.cards.proofs.WriteLemmas.{AddsBeginning-stop, Writes-then, Writes-err}
use Rattle.cards.proofs.numbers.+write_number.Goals as goal

pub returns-then-number-lt10 : goal.returns-then-number-lt10
returns-then-number-lt10 g t c = rw (decimal_digit c.args.number c.if-number-lt10.true) c.write_all.ensures

pub returns-in_err-write_number : goal.returns-in_err-write_number
returns-in_err-write_number g t c =
    let n = c.args.number in
    let step = decimal_step n c.if-number-lt10.false (omega arith) in
    rw step (Writes-err c.from_residual.result _ c.from_residual.ensures.1 (AddsBeginning-stop _ c.in_err-write_number.ensures))

pub returns : goal.returns
returns g t c =
    let n = c.args.number in
    let step = decimal_step n c.if-number-lt10.false (omega arith) in
    rw step (Writes-then c.write_all-2.result _ _ c.in_ok-write_number.ensures c.write_all-2.ensures)
