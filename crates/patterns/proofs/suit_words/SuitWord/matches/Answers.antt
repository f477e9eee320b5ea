use Rattle.std.proofs.Common.{refl}
use Rattle.patterns.proofs.SeatLaws.{told_alike, and_then, and_else}
use Rattle.patterns.proofs.HoldingLaws.{matches_by_words}
use Rattle.patterns.proofs.suit_words.SuitWord.matches.Goals as goal

pub returns-then-has_lens : goal.returns-then-has_lens
returns-then-has_lens c =
    told_alike (and_then c.has_lens.ensures c.has_owners.ensures c.if-has_lens.true refl)
    (matches_by_words c.holdings-words.result c.args.layout.now c.args.suit c.args.self.now c.holdings-words.ensures)

pub returns-else-has_lens : goal.returns-else-has_lens
returns-else-has_lens c =
    told_alike (and_else c.has_lens.ensures c.if-has_lens.false refl)
    (matches_by_words c.holdings-words.result c.args.layout.now c.args.suit c.args.self.now c.holdings-words.ensures)
