use Rattle.std.proofs.Common.{length}
use Rattle.play_evidence.proofs.sections.+are_each_claims.Given as goal

abbrev pub decreases-are_each_claims : goal.decreases-are_each_claims
decreases-are_each_claims l = length l.claims.now
