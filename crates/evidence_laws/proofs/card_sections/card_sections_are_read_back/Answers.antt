use Rattle.evidence_laws.proofs.CardSectionLemmas.{read_back}
use Rattle.evidence_laws.proofs.card_sections.card_sections_are_read_back.Goals as goal

pub returns : goal.returns
returns c = read_back
