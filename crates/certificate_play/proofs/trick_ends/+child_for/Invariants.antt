use Rattle.std.proofs.Common.{length}
use Rattle.certificate_play.proofs.trick_ends.+child_for.Given as goal

abbrev pub decreases-child_for : goal.decreases-child_for
decreases-child_for l = length l.children.now
