use Rattle.pattern_step.proofs.LayoutLaws.{top_ranks_above}
use Rattle.check_laws.proofs.pattern_cards.tops_rank_above.Goals as goal

pub returns : goal.returns
returns c = top_ranks_above
