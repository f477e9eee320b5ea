use Rattle.std.proofs.Common.{arith}
use Rattle.partition_search.proofs.CardLaws.{lacks_lowest}
use Rattle.partition_search.proofs.words.without_lowest.Goals as goal

pub returns : goal.returns
returns c = lacks_lowest c.args.cards _ (omega arith) (λ some. omega arith)
