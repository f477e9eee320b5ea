use Rattle.std.proofs.Common.{sym}
use Rattle.pbn_deals.specs.Games.{inherited_board, first_board, later_board}
use Rattle.pbn_deals.proofs.GameLemmas.{some_of, none_of}
use Rattle.pbn_deals.proofs.games.GameTags.take_board.Goals as goal

pub returns-then-is_inherited : goal.returns-then-is_inherited
returns-then-is_inherited c = inherited_board (sym c.if-is_inherited.ensures)

pub returns-in_ok-from_slice : goal.returns-in_ok-from_slice
returns-in_ok-from_slice c = rw (c.new.ensures, c.in_ok-from_slice.ensures.items) (first_board (sym c.if-is_inherited.ensures) (none_of c.args.self.now.name (sym c.if-is_none.ensures)))

pub returns-else-is_none : goal.returns-else-is_none
returns-else-is_none c = later_board (sym c.if-is_inherited.ensures) (some_of c.args.self.now.name (sym c.if-is_none.ensures)).1
