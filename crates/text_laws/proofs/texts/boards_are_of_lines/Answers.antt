use Rattle.text_laws.proofs.LinesRead.{boards_of_lines}
use Rattle.text_laws.proofs.texts.boards_are_of_lines.Goals as goal

pub returns : goal.returns
returns c = boards_of_lines
