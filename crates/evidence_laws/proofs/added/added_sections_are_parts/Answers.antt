use Rattle.evidence_laws.proofs.PartLaws as lemma
use Rattle.evidence_laws.proofs.added.added_sections_are_parts.Goals as goal

pub returns : goal.returns
returns c = lemma.added_sections_are_parts
