use Rattle.strategies.proofs.UniqueProofs.{no_more_than_all}
use Rattle.strategies.proofs.laws.sides_win_no_more_than_all.Goals as goal

pub returns : goal.returns
returns c = no_more_than_all
