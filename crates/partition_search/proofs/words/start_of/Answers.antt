use Rattle.std.proofs.Common.{arith}
use Rattle.partition_search.proofs.CardLaws.{suit_start}
use Rattle.partition_search.proofs.words.start_of.Goals as goal

pub returns : goal.returns
returns c = λ bit is. suit_start c.args.card bit (omega arith) is
