-- Each part is below 2 ^ 13.
use Rattle.std.proofs.Common.{arith}
use Rattle.cards.specs.declared.suits.Suit.TheVariants.{Spades, Hearts, Diamonds, Clubs}
use Rattle.dds_calls.proofs.HandWords.{part-lt}
use Rattle.dds_calls.proofs.hands.word_of.Goals as goal

pub overflow_mul-result-2 : goal.overflow_mul-result-2
overflow_mul-result-2 c =
    omega (arith, part-lt _ (c.requires Hearts), part-lt _ (c.requires Diamonds), part-lt _ (c.requires Clubs))

pub overflow_add-result-2 : goal.overflow_add-result-2
overflow_add-result-2 c =
    omega (arith, part-lt _ (c.requires Spades), part-lt _ (c.requires Hearts), part-lt _ (c.requires Diamonds), part-lt _ (c.requires Clubs))
