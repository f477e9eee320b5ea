use Rattle.std.proofs.Common.{rules}
use Rattle.deal_subcommands.proofs.check.runs.status_of.Goals as goal

pub returns-in-Err : goal.returns-in-Err
returns-in-Err c = search rules
