use Rattle.text_laws.proofs.SomeAnswer as law
use Rattle.text_laws.proofs.texts.some_answer.Goals as goal

pub returns : goal.returns
returns c = law.some_answer
