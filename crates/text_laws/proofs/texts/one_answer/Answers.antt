use Rattle.text_laws.proofs.OneAnswer as law
use Rattle.text_laws.proofs.texts.one_answer.Goals as goal

pub returns : goal.returns
returns c = λ text one other a b. law.one_answer a b
