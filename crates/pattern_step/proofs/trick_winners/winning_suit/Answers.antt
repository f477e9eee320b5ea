use Rattle.std.proofs.Common.{rules}
use Rattle.pattern_step.proofs.trick_winners.winning_suit.Goals as goal

pub returns-in_default : goal.returns-in_default
returns-in_default c = search rules
