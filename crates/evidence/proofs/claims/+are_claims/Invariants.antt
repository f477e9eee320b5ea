use Rattle.std.proofs.Common.{length}
use Rattle.evidence.proofs.claims.+are_claims.Given as goal

abbrev pub decreases-are_claims : goal.decreases-are_claims
decreases-are_claims l = length l.claims.now
