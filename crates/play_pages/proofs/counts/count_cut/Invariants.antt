-- The games so far are counted.
use Rattle.std.proofs.Common.{◌≡◌, ◌≤◌, take, count_by}
use Rattle.play_pages.specs.Counts.{is_cut}
use Rattle.play_pages.proofs.counts.count_cut.Given as goal

abbrev pub invariant-loop-game : goal.invariant-loop-game
invariant-loop-game l = record {
  counted : l.count ≡ count_by is_cut (take l.game-index l.games);
  bound : l.count ≤ l.game-index;
}
