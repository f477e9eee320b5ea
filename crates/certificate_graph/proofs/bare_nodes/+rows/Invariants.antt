use Rattle.std.proofs.Common.{length}
use Rattle.certificate_graph.proofs.bare_nodes.+rows.Given as goal

abbrev pub decreases-are_rows : goal.decreases-are_rows
decreases-are_rows l = length l.bares.now
