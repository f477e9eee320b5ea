use Rattle.std.proofs.Common.{arith}
use Rattle.partition_search.proofs.CardLaws.{below_card}
use Rattle.partition_search.proofs.words.below.Goals as goal

pub returns-clause-card : goal.returns-clause-card
returns-clause-card c = below_card c.args.card _ (λ some. omega arith)
