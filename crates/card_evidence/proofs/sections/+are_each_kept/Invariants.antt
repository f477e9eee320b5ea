use Rattle.std.proofs.Common.{length}
use Rattle.card_evidence.proofs.sections.+are_each_kept.Given as goal

abbrev pub decreases-are_each_kept : goal.decreases-are_each_kept
decreases-are_each_kept l = length l.claims.now
