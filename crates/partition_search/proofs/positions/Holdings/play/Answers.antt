use Rattle.std.proofs.Common.{arith, rules}
use Rattle.std.proofs.lemmas.Nat.{and_mask}
use Rattle.partition_search.proofs.LengthLaws.{plays_card}
use Rattle.partition_search.proofs.positions.Holdings.play.Goals as goal

pub returns : goal.returns
returns c =
    plays_card c.args.self.now c.args.seat c.args.card _ c.one_of.result (and_mask c.args.seat 2) (search rules) (search rules) (omega arith) c.one_of.ensures
