use Rattle.checker.proofs.ClaimsAreSound.{graphs_sound}
use Rattle.checker.proofs.soundness.graphs_are_sound.Goals as goal

pub returns : goal.returns
returns c = graphs_sound
