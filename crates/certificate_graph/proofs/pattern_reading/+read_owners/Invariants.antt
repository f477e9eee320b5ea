use Rattle.std.proofs.Common.{◌-◌}
use Rattle.certificate_graph.proofs.pattern_reading.+read_owners.Given as goal

abbrev pub decreases-read_owners : goal.decreases-read_owners
decreases-read_owners l = 13 - l.count
