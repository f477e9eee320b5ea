use Rattle.pattern_step.proofs.TrickLaws.{one_left}
use Rattle.check_laws.proofs.pattern_cards.one_is_left.Goals as goal

pub returns : goal.returns
returns c = one_left
