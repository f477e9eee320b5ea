use Rattle.evidence_laws.proofs.SolveLemmas.{are_read_back}
use Rattle.evidence_laws.proofs.answers.answers_are_read_back.Goals as goal

pub returns : goal.returns
returns c = are_read_back
