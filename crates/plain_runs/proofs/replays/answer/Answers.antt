use Rattle.std.proofs.Common.{rules}
use Rattle.plain_runs.proofs.replays.answer.Goals as goal

pub returns-in-GiveUp : goal.returns-in-GiveUp
returns-in-GiveUp c = search rules
