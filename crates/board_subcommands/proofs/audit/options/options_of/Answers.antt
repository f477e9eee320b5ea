use Rattle.std.proofs.Common.{rules}
use Rattle.board_subcommands.proofs.audit.options.options_of.Goals as goal

pub returns-in_err-file : goal.returns-in_err-file
returns-in_err-file c = search rules

pub returns-in_err-page : goal.returns-in_err-page
returns-in_err-page c = search rules
