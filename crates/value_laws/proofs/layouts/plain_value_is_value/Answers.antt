use Rattle.value_laws.proofs.UniqueProofs.{plain_is_value}
use Rattle.value_laws.proofs.layouts.plain_value_is_value.Goals as goal

pub returns : goal.returns
returns c = plain_is_value
