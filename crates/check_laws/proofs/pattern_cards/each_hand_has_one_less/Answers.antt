use Rattle.pattern_step.proofs.TrickLaws.{hand_size-left}
use Rattle.check_laws.proofs.pattern_cards.each_hand_has_one_less.Goals as goal

pub returns : goal.returns
returns c = hand_size-left
