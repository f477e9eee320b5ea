use Rattle.value_laws.proofs.LossLaws.{lines_say_losses}
use Rattle.value_laws.proofs.losses.lines_say_losses.Goals as goal

pub returns : goal.returns
returns c = lines_say_losses
