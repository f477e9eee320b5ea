use Rattle.strategies.proofs.LawProofs.{against_each_card}
use Rattle.strategies.proofs.laws.wins_against_each_card.Goals as goal

pub returns : goal.returns
returns c = against_each_card
