-- Of the boards before `number` the first with each deal is noted, and each board's is told.
use Rattle.std.proofs.Common.{◌≡◌, ◌<◌, ◌≤◌, ℕ, length, get_or}
use Rattle.indexmap.specs.IndexMap.{get}
use Rattle.lease_book.specs.Twins.{first_board}
use Rattle.lease_book.specs.Holders.{are_same_holders, AreNoted}
use Rattle.lease_book.proofs.boards.first_boards.Given as goal

abbrev pub invariant-loop-number : goal.invariant-loop-number
invariant-loop-number l = record {
  noted : AreNoted l.boards l.number (get are_same_holders l.noted);
  done : (number d : ℕ) → number < l.number → get_or l.firsts.items number d ≡ first_board l.boards number;
  sized : length l.firsts.items ≡ l.number;
  within : l.number ≤ length l.boards;
}
