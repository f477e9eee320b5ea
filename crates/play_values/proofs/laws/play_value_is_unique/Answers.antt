use Rattle.play_values.proofs.ValueLaws.{one_play_value}
use Rattle.play_values.proofs.laws.play_value_is_unique.Goals as goal

pub returns : goal.returns
returns c = one_play_value
