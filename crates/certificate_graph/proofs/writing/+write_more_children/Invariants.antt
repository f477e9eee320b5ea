use Rattle.std.proofs.Common.{length}
use Rattle.certificate_graph.proofs.writing.+write_more_children.Given as goal

abbrev pub decreases-write_more_children : goal.decreases-write_more_children
decreases-write_more_children g l = length l.children
