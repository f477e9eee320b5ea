-- The tricks so far and those of the rest are all.
use Rattle.std.proofs.Common.{◌≡◌, ◌+◌, ◌≤◌, length}
use Rattle.play_rules.specs.History.{tricks_of}
use Rattle.play_dialogues.proofs.scores.count_tricks.Given as goal

abbrev pub invariant-loop-rest : goal.invariant-loop-rest
invariant-loop-rest l = record {
  all : l.won + tricks_of l.side l.trump l.leader l.rest ≡ tricks_of l.side l.trump l.fn.leader l.fn.cards;
  few : l.won + length l.rest ≤ length l.fn.cards;
}

abbrev pub decreases-loop-rest : goal.decreases-loop-rest
decreases-loop-rest l = length l.rest
