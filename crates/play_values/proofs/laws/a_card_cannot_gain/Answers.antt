use Rattle.play_values.proofs.ValueLaws.{cannot_gain}
use Rattle.play_values.proofs.laws.a_card_cannot_gain.Goals as goal

pub returns : goal.returns
returns c = cannot_gain
