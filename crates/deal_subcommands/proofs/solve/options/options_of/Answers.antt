use Rattle.command_words.proofs.SaysLemmas.{nothing_read}
use Rattle.deal_subcommands.proofs.solve.options.options_of.Goals as goal

pub returns-in_err-deal : goal.returns-in_err-deal
returns-in_err-deal c = nothing_read _ _ c.from_residual.ensures (λ read said. c.in_err-deal.ensures read.deal said.0)

pub returns-in_err-budget : goal.returns-in_err-budget
returns-in_err-budget c = nothing_read _ _ c.from_residual-in_err-budget.ensures (λ read said. c.in_err-budget.ensures read.budget said.1)
