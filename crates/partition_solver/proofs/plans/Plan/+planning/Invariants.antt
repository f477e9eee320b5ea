use Rattle.std.specs.Prelude.{◌+◌, ◌*◌}
use Rattle.partition_solver.proofs.plans.Plan.+planning.Given as goal

-- two for each card that is to be played, and one where the seat to play has been asked

abbrev pub decreases-add_tree : goal.decreases-add_tree
decreases-add_tree l = 2 * l.cards

abbrev pub decreases-add_own : goal.decreases-add_own
decreases-add_own l = 2 * l.others + 1

abbrev pub decreases-add_reply : goal.decreases-add_reply
decreases-add_reply l = 2 * l.others + 1
