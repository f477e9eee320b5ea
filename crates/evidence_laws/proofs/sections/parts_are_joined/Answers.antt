use Rattle.evidence_laws.proofs.TitleLemmas as lemma
use Rattle.evidence_laws.proofs.sections.parts_are_joined.Goals as goal

pub returns : goal.returns
returns c = lemma.parts_are_joined
