use Rattle.value_laws.proofs.ValueLaws.{one_value_after}
use Rattle.value_laws.proofs.values_after.value_after_is_unique.Goals as goal

pub returns : goal.returns
returns c = one_value_after
