use Rattle.pattern_step.proofs.LeftLaws.{Matches-left}
use Rattle.check_laws.proofs.pattern_cards.what_is_left_matches.Goals as goal

pub returns : goal.returns
returns c = Matches-left
