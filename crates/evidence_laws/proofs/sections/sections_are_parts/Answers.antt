use Rattle.evidence_laws.proofs.TitleLemmas as lemma
use Rattle.evidence_laws.proofs.sections.sections_are_parts.Goals as goal

pub returns : goal.returns
returns c = lemma.sections_are_parts
