use Rattle.play_rules.proofs.TrickLaws.{wins_by_highest_card}
use Rattle.play_rules.proofs.laws.wins_by_highest_card.Goals as goal

pub returns : goal.returns
returns c = wins_by_highest_card
