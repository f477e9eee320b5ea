use Rattle.std.proofs.Common.{arith}
use Rattle.std.proofs.lemmas.Int.Digits.{digits_value_more}
use Rattle.certificate_graph.proofs.NumberLemmas.{next_value, digit_is}
use Rattle.certificate_graph.proofs.scanning.value_of.Goals as goal

pub overflow_mul-value : goal.overflow_mul-value
overflow_mul-value c =
    let next = next_value c.args.digits.now c.loop-digit.digit-index c.requires.all c.requires.few (omega arith) in
    omega arith

pub overflow_sub-digit : goal.overflow_sub-digit
overflow_sub-digit c =
    let digit = digit_is c.args.digits.now c.loop-digit.digit-index c.requires.all (omega arith) in
    omega arith

pub overflow_add-value : goal.overflow_add-value
overflow_add-value c =
    let next = next_value c.args.digits.now c.loop-digit.digit-index c.requires.all c.requires.few (omega arith) in
    let digit = digit_is c.args.digits.now c.loop-digit.digit-index c.requires.all (omega arith) in
    omega arith

pub loop-digit-preserved : goal.loop-digit-preserved
loop-digit-preserved c =
    let next = digits_value_more 10 c.args.digits.now c.loop-digit.digit-index (omega arith) in
    let digit = digit_is c.args.digits.now c.loop-digit.digit-index c.requires.all (omega arith) in
    omega arith
