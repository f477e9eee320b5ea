use Rattle.check_laws.proofs.BegunFaultLaws.{one_begun_fault}
use Rattle.check_laws.proofs.steps.begun_node_has_one_first_fault.Goals as goal

pub returns : goal.returns
returns c = one_begun_fault
