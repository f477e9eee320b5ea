use Rattle.check_laws.proofs.ExtractLaws.{extracts}
use Rattle.check_laws.proofs.steps.extracts_hold.Goals as goal

pub returns : goal.returns
returns c = extracts
