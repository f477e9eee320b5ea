use Rattle.certificate_graph.specs.Trees.{branches_size}
use Rattle.certificate_play.proofs.branches.+below.Given as goal

abbrev pub decreases-below : goal.decreases-below
decreases-below l = branches_size l.branches.now
