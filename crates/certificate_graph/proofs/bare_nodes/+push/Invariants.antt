use Rattle.std.proofs.Common.{length}
use Rattle.certificate_graph.proofs.bare_nodes.+push.Given as goal

abbrev pub decreases-push_from : goal.decreases-push_from
decreases-push_from l = length l.bares.now
