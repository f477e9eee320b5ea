use Rattle.pattern_step.proofs.RunLaws.{lines_alike}
use Rattle.pattern_step.proofs.laws.lines_are_alike.Goals as goal

pub returns : goal.returns
returns c = lines_alike
