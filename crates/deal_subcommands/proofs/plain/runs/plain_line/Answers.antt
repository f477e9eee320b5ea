use Rattle.std.proofs.Common.{rules}
use Rattle.deal_subcommands.proofs.plain.runs.plain_line.Goals as goal

pub returns-in_err-layout : goal.returns-in_err-layout
returns-in_err-layout g c = search rules

pub returns-in_err-tricks : goal.returns-in_err-tricks
returns-in_err-tricks g c = search rules
