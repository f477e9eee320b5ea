use Rattle.std.proofs.Common.{ℕ, ◌<◌}
use Rattle.deal_subcommands.specs.Answers.{IsEmptyLine}
use Rattle.deal_subcommands.proofs.answers.empty_line.Given as goal

abbrev pub invariant-loop-place : goal.invariant-loop-place
invariant-loop-place l = (before : ℕ) → before < l.place → IsEmptyLine l.text before → ⊥
