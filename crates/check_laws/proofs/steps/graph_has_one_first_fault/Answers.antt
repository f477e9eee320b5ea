use Rattle.checker.proofs.FaultLaws.{one_of_graph}
use Rattle.check_laws.proofs.steps.graph_has_one_first_fault.Goals as goal

pub returns : goal.returns
returns c = one_of_graph
