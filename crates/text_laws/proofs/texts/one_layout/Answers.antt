use Rattle.pbn_deals.proofs.OneLayout as law
use Rattle.text_laws.proofs.texts.one_layout.Goals as goal

pub returns : goal.returns
returns c = λ value one other a b. law.one_layout value one other a b
