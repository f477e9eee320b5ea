use Rattle.std.proofs.Common.{arith}
use Rattle.card_values.proofs.PlayLaws.{kept_on}
use Rattle.card_values.proofs.tricks.TrickInProgress.play.Goals as goal

pub invariant_of-self : goal.invariant_of-self
invariant_of-self c =
    kept_on c.self.inside.table c.play.new.self c.self.inside.layout c.self.inside.leader c.self.inside.trump c.self.inside.played.items c.push.new.self.items c.args.card c.self.invariant
    (omega (arith, c.if-count-ge3.false, c.len-count.ensures.value)) c.in-Ok.ensures.cases.0 c.in-Ok.ensures.cases.1 c.in-Ok.ensures.ok c.push.ensures.items
