use Rattle.std.proofs.Common.{arith}
use Rattle.std.proofs.lemmas.Int.Digits.{digits_more}
use Rattle.certificate_graph.proofs.NumberLemmas.{next_digit}
use Rattle.certificate_graph.proofs.scanning.first_digits.Goals as goal

pub overflow_mul-value : goal.overflow_mul-value
overflow_mul-value c =
    let next = next_digit c.args.text.now c.loop-end.end c.loop-end.value c.if-end-text.true (omega arith) c.loop-end.invariant.digits
    c.if-is_ascii_digit.ensures.cases c.loop-end.invariant.value in
    omega (arith, next.short)

pub overflow_add-value : goal.overflow_add-value
overflow_add-value c =
    let next = next_digit c.args.text.now c.loop-end.end c.loop-end.value c.if-end-text.true (omega arith) c.loop-end.invariant.digits
    c.if-is_ascii_digit.ensures.cases c.loop-end.invariant.value in
    omega (arith, next.short, next.low, c.from.ensures)

pub loop-end-preserved : goal.loop-end-preserved
loop-end-preserved c =
    let next = next_digit c.args.text.now c.loop-end.end c.loop-end.value c.if-end-text.true (omega arith) c.loop-end.invariant.digits
    c.if-is_ascii_digit.ensures.cases c.loop-end.invariant.value in
    record {
      within = omega arith;
      few = omega arith;
      value = omega (arith, next.more, c.from.ensures);
      digits = digits_more 10 c.args.text.now c.loop-end.end c.if-end-text.true c.loop-end.invariant.digits c.if-is_ascii_digit.ensures.bound;
    }
