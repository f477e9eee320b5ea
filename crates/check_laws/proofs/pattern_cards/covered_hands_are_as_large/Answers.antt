use Rattle.pattern_step.proofs.LayoutLaws.{hand_size-covered}
use Rattle.check_laws.proofs.pattern_cards.covered_hands_are_as_large.Goals as goal

pub returns : goal.returns
returns c = hand_size-covered
