use Rattle.certificate_graph.specs.Trees.{tree_size, branches_size}
use Rattle.certificate_graph.proofs.writing.+write.Given as goal

abbrev pub decreases-write_tree : goal.decreases-write_tree
decreases-write_tree g l = tree_size l.place

abbrev pub decreases-write_branches : goal.decreases-write_branches
decreases-write_branches g l = branches_size l.branches
