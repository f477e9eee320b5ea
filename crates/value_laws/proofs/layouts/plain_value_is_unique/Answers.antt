use Rattle.value_laws.proofs.UniqueProofs.{one_plain_value}
use Rattle.value_laws.proofs.layouts.plain_value_is_unique.Goals as goal

pub returns : goal.returns
returns c = one_plain_value
