use Rattle.evidence_laws.proofs.AnswerLaws.{one_answer}
use Rattle.evidence_laws.proofs.answers.text_is_one_answer.Goals as goal

pub returns : goal.returns
returns c = one_answer
