use Rattle.std.proofs.Common.{length}
use Rattle.play_evidence.proofs.sections.+are_each_begun.Given as goal

abbrev pub decreases-are_each_begun : goal.decreases-are_each_begun
decreases-are_each_begun l = length l.nodes.now
