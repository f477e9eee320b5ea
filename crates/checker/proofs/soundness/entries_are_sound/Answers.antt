use Rattle.checker.proofs.ClaimsAreSound.{entries_sound}
use Rattle.checker.proofs.soundness.entries_are_sound.Goals as goal

pub returns : goal.returns
returns c = entries_sound
