use Rattle.std.proofs.Common.{length}
use Rattle.checker.proofs.begun.+place_on_path.Given as goal

abbrev pub decreases-place_on_path : goal.decreases-place_on_path
decreases-place_on_path l = length l.cards.now
