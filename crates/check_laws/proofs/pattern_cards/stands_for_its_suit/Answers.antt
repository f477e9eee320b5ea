use Rattle.pattern_step.proofs.LayoutLaws.{stands_suit}
use Rattle.check_laws.proofs.pattern_cards.stands_for_its_suit.Goals as goal

pub returns : goal.returns
returns c = stands_suit
