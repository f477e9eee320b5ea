use Rattle.pattern_step.proofs.LayoutLaws.{length_is_held}
use Rattle.check_laws.proofs.pattern_cards.lengths_are_held.Goals as goal

pub returns : goal.returns
returns c = length_is_held
