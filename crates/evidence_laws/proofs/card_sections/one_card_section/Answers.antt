use Rattle.evidence_laws.proofs.CardSectionLemmas as lemma
use Rattle.evidence_laws.proofs.card_sections.one_card_section.Goals as goal

pub returns : goal.returns
returns c = lemma.one_section
