use Rattle.std.proofs.Common.{refl}
use Rattle.certificate_graph.proofs.PatternLemmas.{lens_by_digits}
use Rattle.certificate_graph.proofs.pattern_reading.read_lens.Goals as goal

pub returns-then-has_digit-4 : goal.returns-then-has_digit-4
returns-then-has_digit-4 c = (
  _,
  lens_by_digits c.args.text.now c.if-text-ge-SHORT_LENS.true (c.if-has_digit.ensures refl) (c.if-has_digit-2.ensures refl)
      (c.if-has_digit-3.ensures refl) (c.if-has_digit-4.ensures refl),
  c.word_of_lens-word.ensures,
)
