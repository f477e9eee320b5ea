use Rattle.text_laws.proofs.BoardsBack.{are_read_back}
use Rattle.text_laws.proofs.table_texts.boards_are_read_back.Goals as goal

pub returns : goal.returns
returns c = are_read_back
