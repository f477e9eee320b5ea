use Rattle.std.proofs.Common.{arith}
use Rattle.partition_search.proofs.CardLaws.{highest_at, no_highest}
use Rattle.partition_search.proofs.words.highest_bit.Goals as goal

pub returns-clause-some : goal.returns-clause-some
returns-clause-some c = highest_at c.args.cards (omega arith) _ (λ few. omega arith)

pub returns-clause-none : goal.returns-clause-none
returns-clause-none c = no_highest c.args.cards _ (λ few. omega arith)
