use Rattle.strategies.proofs.LawProofs.{share}
use Rattle.strategies.proofs.laws.tricks_are_shared.Goals as goal

pub returns : goal.returns
returns c = share
