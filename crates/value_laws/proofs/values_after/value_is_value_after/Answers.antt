use Rattle.value_laws.proofs.ValueLaws.{value_is_value_after}
use Rattle.value_laws.proofs.values_after.value_is_value_after.Goals as goal

pub returns : goal.returns
returns c = value_is_value_after
