use Rattle.std.proofs.Common.{arith}
use Rattle.partition_search.proofs.CardLaws.{of_suit}
use Rattle.partition_search.proofs.words.suit_of.Goals as goal

pub returns : goal.returns
returns c = λ bit is.
    of_suit c.args.card bit c.start_of.result c.wrapping_shl.result (omega arith) is (c.start_of.ensures bit is) c.wrapping_shl.ensures
