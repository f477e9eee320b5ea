use Rattle.std.proofs.Common.{refl}
use Rattle.evidence.specs.SectionTexts.{section_text}
use Rattle.evidence_laws.proofs.sections.one_text.Goals as goal

pub returns : goal.returns
returns c = λ section is. (section_text section, (is, refl), λ other of. of.1)
