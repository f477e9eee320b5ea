use Rattle.std.proofs.Common.{arith}
use Rattle.partition_search.proofs.TrickLaws.{follows_suit, plays_all}
use Rattle.partition_search.proofs.positions.Trick.legal.Goals as goal

pub returns-then-follows-ne0 : goal.returns-then-follows-ne0
returns-then-follows-ne0 c = follows_suit c.args.self.now.led c.args.hand c.if-follows-ne0.true (omega arith)

pub returns-else-follows-ne0 : goal.returns-else-follows-ne0
returns-else-follows-ne0 c = plays_all c.args.self.now.led c.args.hand c.if-follows-ne0.false
