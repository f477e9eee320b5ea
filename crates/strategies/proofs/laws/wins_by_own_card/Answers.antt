use Rattle.strategies.proofs.LawProofs.{by_own_card}
use Rattle.strategies.proofs.laws.wins_by_own_card.Goals as goal

pub returns : goal.returns
returns c = by_own_card
