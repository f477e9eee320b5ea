use Rattle.value_laws.proofs.RestLaws.{value_counts_tricks_won}
use Rattle.value_laws.proofs.values_after.value_counts_tricks_won.Goals as goal

pub returns : goal.returns
returns c = value_counts_tricks_won
