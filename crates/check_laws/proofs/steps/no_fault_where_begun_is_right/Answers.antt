use Rattle.check_laws.proofs.BegunFaultLaws.{no_fault_where_right}
use Rattle.check_laws.proofs.steps.no_fault_where_begun_is_right.Goals as goal

pub returns : goal.returns
returns c = no_fault_where_right
