use Rattle.std.proofs.Common.{length}
use Rattle.card_evidence.proofs.section_writing.+write_each.Given as goal

abbrev pub decreases-write_each : goal.decreases-write_each
decreases-write_each g l = length l.claims.now
