use Rattle.check_laws.proofs.VersionLaws.{hold_as_two}
use Rattle.check_laws.proofs.steps.steps_hold_as_version_two.Goals as goal

pub returns : goal.returns
returns c = hold_as_two
