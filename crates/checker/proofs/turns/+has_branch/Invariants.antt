use Rattle.certificate_graph.specs.Trees.{branches_size}
use Rattle.checker.proofs.turns.+has_branch.Given as goal

abbrev pub decreases-has_branch : goal.decreases-has_branch
decreases-has_branch l = branches_size l.branches.now
