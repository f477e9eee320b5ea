use Rattle.pbn_deals.proofs.LinesOfText.{text_lines}
use Rattle.text_laws.proofs.texts.texts_are_lines.Goals as goal

pub returns : goal.returns
returns c = λ text. text_lines text
