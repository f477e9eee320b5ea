use Rattle.std.proofs.Common.{rules}
use Rattle.command_words.proofs.SaysLemmas.{nothing_read}
use Rattle.board_subcommands.proofs.table.options.options_of.Goals as goal

pub returns-in_err-settings : goal.returns-in_err-settings
returns-in_err-settings c = nothing_read _ _ c.from_residual.ensures (λ read said. c.in_err-settings.ensures read.settings said.0)

pub returns-in_err-progress : goal.returns-in_err-progress
returns-in_err-progress c = search rules

pub returns-in_err-page : goal.returns-in_err-page
returns-in_err-page c = search rules

pub returns : goal.returns
returns c = (c.in_ok-settings.ensures, search rules, search rules, search rules, search rules)
