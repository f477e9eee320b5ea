use Rattle.std.proofs.Common.{rules}
use Rattle.command_words.proofs.SaysLemmas.{nothing_read}
use Rattle.deal_subcommands.proofs.play.options.options_of.Goals as goal

pub returns-in_err-deal : goal.returns-in_err-deal
returns-in_err-deal c = nothing_read _ _ c.from_residual.ensures (λ read said.
    c.in_err-deal.ensures (record { layout = read.layout; seat = read.declarer; trump = read.trump }) said.0)

pub returns-in_err-answer : goal.returns-in_err-answer
returns-in_err-answer c = search rules

pub returns-in_err-side : goal.returns-in_err-side
returns-in_err-side c = search rules
