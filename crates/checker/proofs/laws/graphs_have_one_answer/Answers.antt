use Rattle.checker.proofs.OneAnswer.{one_entry}
use Rattle.checker.proofs.laws.graphs_have_one_answer.Goals as goal

pub returns : goal.returns
returns c = one_entry
