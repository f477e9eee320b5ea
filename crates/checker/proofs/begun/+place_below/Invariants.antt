use Rattle.certificate_graph.specs.Trees.{branches_size}
use Rattle.checker.proofs.begun.+place_below.Given as goal

abbrev pub decreases-place_below : goal.decreases-place_below
decreases-place_below l = branches_size l.branches.now
