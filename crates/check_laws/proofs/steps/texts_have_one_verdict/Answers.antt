use Rattle.checker.proofs.OneAnswer.{one_verdict}
use Rattle.check_laws.proofs.steps.texts_have_one_verdict.Goals as goal

pub returns : goal.returns
returns c = one_verdict
