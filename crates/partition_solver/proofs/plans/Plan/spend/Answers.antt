use Rattle.std.proofs.Common.{arith}
use Rattle.partition_solver.proofs.plans.Plan.spend.Goals as goal

pub overflow_sub-search : goal.overflow_sub-search
overflow_sub-search c = omega arith
