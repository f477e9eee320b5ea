use Rattle.text_laws.proofs.WrittenLines.{keep_boards}
use Rattle.text_laws.proofs.written.boards_are_kept.Goals as goal

pub returns : goal.returns
returns c = keep_boards
