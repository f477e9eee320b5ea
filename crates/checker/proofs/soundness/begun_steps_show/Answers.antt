use Rattle.checker.proofs.BegunIsSound.{begun_show}
use Rattle.checker.proofs.soundness.begun_steps_show.Goals as goal

pub returns : goal.returns
returns c = begun_show
