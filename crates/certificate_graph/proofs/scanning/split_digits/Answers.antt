use Rattle.std.proofs.Common.{arith}
use Rattle.std.proofs.lemmas.Int.Digits.{digits_more}
use Rattle.certificate_graph.proofs.scanning.split_digits.Goals as goal

pub loop-end-preserved : goal.loop-end-preserved
loop-end-preserved c = record {
  within = omega arith;
  digits = digits_more 10 c.args.text.now c.loop-end.end c.loop-end-test.true c.loop-end.invariant.digits c.if-is_ascii_digit.ensures.bound;
}
