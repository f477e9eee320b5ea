use Rattle.std.proofs.Common.{rules}
use Rattle.play_rules.proofs.holdings.is_playable.Goals as goal

pub returns-then-is_held : goal.returns-then-is_held
returns-then-is_held c = search rules

pub returns-else-is_held : goal.returns-else-is_held
returns-else-is_held c = search rules
