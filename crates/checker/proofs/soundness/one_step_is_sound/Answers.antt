use Rattle.checker.proofs.StepIsSound.{one_step}
use Rattle.checker.proofs.soundness.one_step_is_sound.Goals as goal

pub returns : goal.returns
returns c = one_step
