use Rattle.play_values.proofs.RestLaws.{wins_the_rest_after}
use Rattle.value_laws.proofs.values_after.wins_the_rest_after.Goals as goal

pub returns : goal.returns
returns c = wins_the_rest_after
