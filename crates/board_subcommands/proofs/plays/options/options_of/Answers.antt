use Rattle.std.proofs.Common.{rules}
use Rattle.command_words.proofs.SaysLemmas.{nothing_read}
use Rattle.board_subcommands.proofs.plays.options.options_of.Goals as goal

pub returns-in_err-solvers : goal.returns-in_err-solvers
returns-in_err-solvers c = nothing_read _ _ c.from_residual.ensures (λ read said. c.in_err-solvers.ensures read.solvers said.0)

pub returns-in_err-budget : goal.returns-in_err-budget
returns-in_err-budget c = nothing_read _ _ c.from_residual-in_err-budget.ensures (λ read said. c.in_err-budget.ensures read.budget said.1)

pub returns-in_err-form : goal.returns-in_err-form
returns-in_err-form c = search rules

pub returns : goal.returns
returns c = (c.in_ok-solvers.ensures, c.in_ok-budget.ensures, search rules, search rules, c.games_of-games.ensures)
