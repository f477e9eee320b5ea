-- The higher cards among the ranks so far were counted.
use Rattle.std.proofs.Common.{◌≡◌, ◌≤◌}
use Rattle.pattern_step.proofs.StandInLaws.{held_above}
use Rattle.pattern_step.proofs.stand_ins.place_in_suit.Given as goal

abbrev pub invariant-loop-place : goal.invariant-loop-place
invariant-loop-place l = (l.higher ≡ held_above l.deal l.card.suit l.place) × (l.higher ≤ l.place)
