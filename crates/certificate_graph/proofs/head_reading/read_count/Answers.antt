use Rattle.std.proofs.Common.{inr, refl, arith}
use Rattle.certificate_graph.proofs.HeadLemmas.{long_is_large}
use Rattle.certificate_graph.proofs.head_reading.read_count.Goals as goal

pub returns-then-digits-gt-GREATEST_DIGITS : goal.returns-then-digits-gt-GREATEST_DIGITS
returns-then-digits-gt-GREATEST_DIGITS c = inr (_, _, c.in-Some.ensures, refl, long_is_large _ c.in-Some.ensures.number (omega arith))
