use Rattle.text_laws.proofs.SomeLayout as law
use Rattle.text_laws.proofs.texts.some_layout.Goals as goal

pub returns : goal.returns
returns c = law.some_layout
