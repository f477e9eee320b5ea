use Rattle.strategies.proofs.LawProofs.{fewer}
use Rattle.strategies.proofs.laws.wins_fewer.Goals as goal

pub returns : goal.returns
returns c = fewer
