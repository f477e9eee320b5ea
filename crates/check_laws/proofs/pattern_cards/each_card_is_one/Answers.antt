use Rattle.pattern_step.proofs.LayoutLaws.{IsOnePatCard-of}
use Rattle.check_laws.proofs.pattern_cards.each_card_is_one.Goals as goal

pub returns : goal.returns
returns c = IsOnePatCard-of
