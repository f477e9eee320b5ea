use Rattle.play_rules.proofs.LeftLaws.{leaves_the_unplayed}
use Rattle.play_rules.proofs.laws.leaves_the_unplayed.Goals as goal

pub returns : goal.returns
returns c = leaves_the_unplayed
