use Rattle.std.proofs.Common.{◌-◌, length}
use Rattle.evidence.proofs.head_reading.+read_claims.Given as goal

abbrev pub decreases-read_claims : goal.decreases-read_claims
decreases-read_claims l = 4 - length l.claims.now.items
