use Rattle.evidence_laws.proofs.SectionLemmas as lemma
use Rattle.evidence_laws.proofs.sections.one_section.Goals as goal

pub returns : goal.returns
returns c = lemma.one_section
