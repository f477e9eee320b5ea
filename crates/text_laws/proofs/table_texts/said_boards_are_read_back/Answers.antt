use Rattle.pbn_deals.proofs.PrintableBoards.{boards_are_printable}
use Rattle.text_laws.proofs.BoardsBack.{are_read_back}
use Rattle.text_laws.proofs.table_texts.said_boards_are_read_back.Goals as goal

pub returns : goal.returns
returns c = λ text boards results says small.
    let printable = boards_are_printable text boards says in
    are_read_back boards results printable.0 small printable.1
