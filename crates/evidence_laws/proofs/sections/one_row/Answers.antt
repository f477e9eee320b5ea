use Rattle.evidence_laws.proofs.RowLemmas.{texts_have_one_row}
use Rattle.evidence_laws.proofs.sections.one_row.Goals as goal

pub returns : goal.returns
returns c = texts_have_one_row
