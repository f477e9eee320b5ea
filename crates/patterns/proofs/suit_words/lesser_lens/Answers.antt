use Rattle.std.proofs.Common.{refl}
use Rattle.patterns.proofs.LesserLengths.{lesser_is_other}
use Rattle.patterns.proofs.suit_words.lesser_lens.Goals as goal

pub returns-then-one-lens-eq0-clause-lesser : goal.returns-then-one-lens-eq0-clause-lesser
returns-then-one-lens-eq0-clause-lesser c = lesser_is_other c.args.one c.args.other _ c.ranges.one.fits refl c.if-one-lens-eq0.true
