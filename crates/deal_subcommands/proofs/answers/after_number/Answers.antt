use Rattle.std.proofs.Common.{rules}
use Rattle.deal_subcommands.proofs.AnswerLaws.{one_digit, two_digits}
use Rattle.deal_subcommands.proofs.answers.after_number.Goals as goal

pub returns-then-number-lt10 : goal.returns-then-number-lt10
returns-then-number-lt10 c = search (rules, one_digit)

pub returns : goal.returns
returns c = search (rules, two_digits)
