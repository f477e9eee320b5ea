-- The cards so far are those that the section gives.
use Rattle.std.proofs.Common.{◌-◌, length}
use Rattle.play_rules.specs.Legal.{cards_in_play}
use Rattle.recorded_plays.proofs.Walks.{IsOnItsWay}
use Rattle.recorded_plays.proofs.follow.follow.Given as goal

abbrev pub invariant-loop-end : goal.invariant-loop-end
invariant-loop-end l = IsOnItsWay l.fn.section.first l.fn.section.slots.now l.fn.deal l.fn.declarer l.fn.trump l.walk

abbrev pub decreases-loop-end : goal.decreases-loop-end
decreases-loop-end l = cards_in_play l.walk.table.opening - length l.walk.cards.items
