use Rattle.play_values.proofs.ValueLaws.{first_value}
use Rattle.play_values.proofs.laws.first_value_is_value.Goals as goal

pub returns : goal.returns
returns c = first_value
