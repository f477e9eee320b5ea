use Rattle.std.proofs.Common.{◌≡◌, take}
use Rattle.lease_desk.proofs.board_copies.copies_of.Given as goal

abbrev pub invariant-loop-board : goal.invariant-loop-board
invariant-loop-board l = l.copies.items ≡ take l.board-index l.boards
