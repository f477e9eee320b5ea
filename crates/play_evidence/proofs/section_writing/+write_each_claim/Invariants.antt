use Rattle.std.proofs.Common.{length}
use Rattle.play_evidence.proofs.section_writing.+write_each_claim.Given as goal

abbrev pub decreases-write_each_claim : goal.decreases-write_each_claim
decreases-write_each_claim g l = length l.claims.now
