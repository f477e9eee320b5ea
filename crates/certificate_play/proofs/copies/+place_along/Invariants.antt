use Rattle.std.proofs.Common.{length}
use Rattle.certificate_play.proofs.copies.+place_along.Given as goal

abbrev pub decreases-place_along : goal.decreases-place_along
decreases-place_along l = length l.line.now
