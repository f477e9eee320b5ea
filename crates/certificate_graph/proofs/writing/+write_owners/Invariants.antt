use Rattle.std.proofs.Common.{length, ◌-◌}
use Rattle.certificate_graph.proofs.writing.+write_owners.Given as goal

abbrev pub decreases-write_owners : goal.decreases-write_owners
decreases-write_owners g l = length l.suit.now.owners - l.place
