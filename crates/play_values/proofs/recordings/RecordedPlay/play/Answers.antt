use Rattle.play_values.proofs.KeptLaws.{kept_on}
use Rattle.play_values.proofs.recordings.RecordedPlay.play.Goals as goal

pub invariant_of-self : goal.invariant_of-self
invariant_of-self c =
    kept_on c.self.inside.table c.play.new.self c.self.inside.layout c.self.inside.leader c.self.inside.trump c.self.inside.cards.items c.push.new.self.items c.args.card c.self.invariant c.in-Ok.ensures.cases.0 c.in-Ok.ensures.cases.1 c.in-Ok.ensures.ok c.push.ensures.items
