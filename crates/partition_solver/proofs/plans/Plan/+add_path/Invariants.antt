use Rattle.std.specs.Prelude.{length}
use Rattle.partition_solver.proofs.plans.Plan.+add_path.Given as goal

-- the cards of the path that are left

abbrev pub decreases-add_path : goal.decreases-add_path
decreases-add_path l = length l.path.now
