use Rattle.patterns.proofs.SuitWords.{tells_by_bits}
use Rattle.patterns.proofs.suit_words.tells_suit.Goals as goal

pub returns-then-count-le13 : goal.returns-then-count-le13
returns-then-count-le13 c = tells_by_bits c.args.word c.nibble-count.result c.nibble-count.ensures.value c.if-count-le13.true
