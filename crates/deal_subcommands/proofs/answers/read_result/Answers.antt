use Rattle.std.proofs.Common.{rules}
use Rattle.deal_subcommands.proofs.answers.read_result.Goals as goal

pub returns-in-Some-after_number : goal.returns-in-Some-after_number
returns-in-Some-after_number c = search rules

pub returns : goal.returns
returns c = search rules
