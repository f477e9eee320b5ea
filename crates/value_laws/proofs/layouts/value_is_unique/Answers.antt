use Rattle.value_laws.proofs.UniqueProofs.{one_value}
use Rattle.value_laws.proofs.layouts.value_is_unique.Goals as goal

pub returns : goal.returns
returns c = one_value
