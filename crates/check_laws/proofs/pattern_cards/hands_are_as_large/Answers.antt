use Rattle.pattern_step.proofs.LayoutLaws.{hand_size-dealt}
use Rattle.check_laws.proofs.pattern_cards.hands_are_as_large.Goals as goal

pub returns : goal.returns
returns c = hand_size-dealt
