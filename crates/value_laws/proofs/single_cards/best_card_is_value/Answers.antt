use Rattle.value_laws.proofs.BestLaws.{best_is_value}
use Rattle.value_laws.proofs.single_cards.best_card_is_value.Goals as goal

pub returns : goal.returns
returns c = best_is_value
