use Rattle.strategies.proofs.LawProofs.{nothing}
use Rattle.strategies.proofs.laws.each_side_wins_nothing.Goals as goal

pub returns : goal.returns
returns c = nothing
