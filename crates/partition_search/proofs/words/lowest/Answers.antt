use Rattle.std.proofs.Common.{arith}
use Rattle.partition_search.proofs.CardLaws.{lowest_of}
use Rattle.partition_search.proofs.words.lowest.Goals as goal

pub returns : goal.returns
returns c = lowest_of c.args.cards _ (omega arith) (λ some. omega arith)
