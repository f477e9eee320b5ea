use Rattle.checker.proofs.FaultLaws.{none_of_graph}
use Rattle.check_laws.proofs.NoFaultLaws.{steps_hold}
use Rattle.check_laws.proofs.steps.no_fault_where_steps_hold.Goals as goal

pub returns : goal.returns
returns c = λ graph is. (none_of_graph graph, steps_hold graph is)
