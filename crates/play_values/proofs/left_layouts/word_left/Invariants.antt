-- The word so far is that of the last cards of the pack.
use Rattle.std.proofs.Common.{◌≡◌, ◌-◌, drop}
use Rattle.cards.specs.Hands.{word_of_deal}
use Rattle.play_values.proofs.left_layouts.word_left.Given as goal

abbrev pub invariant-loop-place : goal.invariant-loop-place
invariant-loop-place l = l.word ≡ word_of_deal l.seat (drop (52 - l.place) l.left)
