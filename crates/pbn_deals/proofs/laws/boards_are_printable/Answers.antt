use Rattle.pbn_deals.proofs.PrintableBoards as law
use Rattle.pbn_deals.proofs.laws.boards_are_printable.Goals as goal

pub returns : goal.returns
returns c = law.boards_are_printable
