use Rattle.std.proofs.Common.{length}
use Rattle.farm_tests.proofs.stacks.+descend.Given as goal

abbrev pub decreases-descend : goal.decreases-descend
decreases-descend l = length l.calls.now
