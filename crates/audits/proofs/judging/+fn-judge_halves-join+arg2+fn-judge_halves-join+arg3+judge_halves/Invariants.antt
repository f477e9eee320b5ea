use Rattle.std.proofs.Common.{◌+◌, ◌*◌}
use Rattle.audits.proofs.judging.+fn-judge_halves-join+arg2+fn-judge_halves-join+arg3+judge_halves.Given as goal

abbrev pub decreases-join+arg2 : goal.decreases-join+arg2
decreases-join+arg2 g l = 2 * l.fewer + 2

abbrev pub decreases-join+arg3 : goal.decreases-join+arg3
decreases-join+arg3 g l = 2 * l.fewer + 2

abbrev pub decreases-judge_halves : goal.decreases-judge_halves
decreases-judge_halves g l = 2 * l.halvings + 1
