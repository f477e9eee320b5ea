use Rattle.partition_search.proofs.TrickLaws.{takes-Decides}
use Rattle.partition_search.proofs.positions.Trick.beats.Goals as goal

pub returns : goal.returns
returns c = λ bit is lies. takes-Decides c.args.self.now c.args.trumps c.args.card bit is lies
