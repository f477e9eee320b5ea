-- The numbers that aren't known of the games so far are counted.
use Rattle.std.proofs.Common.{◌≡◌, ◌≤◌, ◌*◌, take, sum_by}
use Rattle.std.specs.List.{enumerate_from}
use Rattle.play_pages.specs.Tasks.{lines_in}
use Rattle.play_pages.specs.Counts.{missing_of}
use Rattle.play_pages.proofs.counts.count_missing.Given as goal

abbrev pub invariant-loop-place : goal.invariant-loop-place
invariant-loop-place l = record {
  counted : l.missing ≡ sum_by (λ numbered. missing_of numbered.1.play (lines_in l.table numbered.0)) (take l.place (enumerate_from 0 l.games));
  bound : l.missing ≤ 53 * l.place;
}
