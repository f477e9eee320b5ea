-- The first cards so far were taken out.
use Rattle.std.proofs.Common.{◌≡◌, take}
use Rattle.play_rules.specs.Left.{left_of}
use Rattle.play_values.proofs.left_layouts.holders_left.Given as goal

abbrev pub invariant-loop-place : goal.invariant-loop-place
invariant-loop-place l = l.left ≡ left_of l.layout (take l.place l.cards)
