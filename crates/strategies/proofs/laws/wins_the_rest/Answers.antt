use Rattle.strategies.proofs.LawProofs.{the_rest}
use Rattle.strategies.proofs.laws.wins_the_rest.Goals as goal

pub returns : goal.returns
returns c = the_rest
