use Rattle.std.proofs.Common.{◌-◌}
use Rattle.certificate_graph.proofs.leaf_reading.+read_more.Given as goal

abbrev pub decreases-read_more : goal.decreases-read_more
decreases-read_more l = 4 - l.least
