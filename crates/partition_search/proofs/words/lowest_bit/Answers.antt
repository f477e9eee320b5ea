use Rattle.std.proofs.Common.{arith}
use Rattle.partition_search.proofs.CardLaws.{lowest_at, no_lowest}
use Rattle.partition_search.proofs.words.lowest_bit.Goals as goal

pub returns-clause-some : goal.returns-clause-some
returns-clause-some c = lowest_at c.args.cards (omega arith)

pub returns-clause-none : goal.returns-clause-none
returns-clause-none c = no_lowest c.args.cards
