use Rattle.std.proofs.Common.{ℕ, ◌<◌, ◌≢◌, List}
use Rattle.deal_subcommands.specs.Answers.{number_line}
use Rattle.deal_subcommands.proofs.answers.read_result.Given as goal

abbrev pub invariant-loop-tricks : goal.invariant-loop-tricks
invariant-loop-tricks l = (less : ℕ) (rest : List ℕ) → less < l.tricks → l.number ≢ number_line less rest
