use Rattle.value_laws.proofs.BestLaws.{one_card_value}
use Rattle.value_laws.proofs.single_cards.card_value_is_unique.Goals as goal

pub returns : goal.returns
returns c = one_card_value
