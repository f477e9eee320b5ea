use Rattle.text_laws.proofs.NothingLost.{lose_nothing}
use Rattle.text_laws.proofs.written.nothing_is_lost.Goals as goal

pub returns : goal.returns
returns c = lose_nothing
