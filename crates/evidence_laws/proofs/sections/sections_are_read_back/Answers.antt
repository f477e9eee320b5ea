use Rattle.evidence_laws.proofs.SectionLemmas.{read_back}
use Rattle.evidence_laws.proofs.sections.sections_are_read_back.Goals as goal

pub returns : goal.returns
returns c = read_back
