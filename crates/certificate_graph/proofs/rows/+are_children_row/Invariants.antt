use Rattle.std.proofs.Common.{length}
use Rattle.certificate_graph.proofs.rows.+are_children_row.Given as goal

abbrev pub decreases-are_children_row : goal.decreases-are_children_row
decreases-are_children_row l = length l.row.now
