use Rattle.std.proofs.Common.{length}
use Rattle.certificate_graph.proofs.rows.+row.Given as goal

abbrev pub decreases-is_tree_row : goal.decreases-is_tree_row
decreases-is_tree_row l = length l.row.now

abbrev pub decreases-are_branches_row : goal.decreases-are_branches_row
decreases-are_branches_row l = length l.row.now
