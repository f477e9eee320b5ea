use Rattle.checker.proofs.FaultLaws.{one_first}
use Rattle.check_laws.proofs.steps.place_has_one_first_fault.Goals as goal

pub returns : goal.returns
returns c = one_first
