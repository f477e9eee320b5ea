use Rattle.std.proofs.lemmas.Fmt.{decimal_digit}
use Rattle.card_evidence.proofs.NumberLemmas.{two_digits}
use Rattle.card_evidence.proofs.numbers.is_spelled.Goals as goal

pub returns-then-number-lt10 : goal.returns-then-number-lt10
returns-then-number-lt10 c = rw (decimal_digit c.args.number c.if-number-lt10.true) c.is_same.ensures

pub returns-else-number-lt10 : goal.returns-else-number-lt10
returns-else-number-lt10 c = rw (two_digits c.args.number c.if-number-lt10.false c.requires) c.is_same-else-number-lt10.ensures
