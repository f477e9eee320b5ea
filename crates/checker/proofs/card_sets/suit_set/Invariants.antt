-- The bits of the seat's tops so far, and those that are left.
use Rattle.checker.proofs.SuitSetLaws.{HasTopsBut}
use Rattle.checker.proofs.card_sets.suit_set.Given as goal

abbrev pub invariant-loop-places : goal.invariant-loop-places
invariant-loop-places l = HasTopsBut l.held.owners l.seat l.places l.set

abbrev pub decreases-loop-places : goal.decreases-loop-places
decreases-loop-places l = l.places
