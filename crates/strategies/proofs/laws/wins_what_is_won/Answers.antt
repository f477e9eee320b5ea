use Rattle.strategies.proofs.LawProofs.{what_is_won}
use Rattle.strategies.proofs.laws.wins_what_is_won.Goals as goal

pub returns : goal.returns
returns c = what_is_won
