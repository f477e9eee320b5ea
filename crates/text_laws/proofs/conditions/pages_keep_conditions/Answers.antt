use Rattle.text_laws.proofs.PageConditions as page
use Rattle.text_laws.proofs.conditions.pages_keep_conditions.Goals as goal

pub returns : goal.returns
returns c = page.pages_keep_conditions
