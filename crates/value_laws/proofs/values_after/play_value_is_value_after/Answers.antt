use Rattle.value_laws.proofs.ValueLaws.{play_value_is_value_after}
use Rattle.value_laws.proofs.values_after.play_value_is_value_after.Goals as goal

pub returns : goal.returns
returns c = play_value_is_value_after
