use Rattle.std.proofs.Common.{rules}
use Rattle.pattern_step.proofs.trick_winners.lesser.Goals as goal

pub returns : goal.returns
returns c = search rules
