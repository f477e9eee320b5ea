use Rattle.pattern_step.proofs.LayoutLaws.{IsSomeCard-of}
use Rattle.check_laws.proofs.pattern_cards.each_pat_card_is_some.Goals as goal

pub returns : goal.returns
returns c = IsSomeCard-of
