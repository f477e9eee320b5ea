use Rattle.std.proofs.Common.{length}
use Rattle.play_evidence.proofs.section_writing.+write_each_node.Given as goal

abbrev pub decreases-write_each_node : goal.decreases-write_each_node
decreases-write_each_node g l = length l.nodes.now
