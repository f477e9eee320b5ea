use Rattle.certificate_graph.specs.Trees.{branches_size}
use Rattle.checker.proofs.turns.+are_legal.Given as goal

abbrev pub decreases-are_legal : goal.decreases-are_legal
decreases-are_legal l = branches_size l.branches.now
