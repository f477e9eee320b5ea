-- The bits of the seats so far, and the children that are to come.
use Rattle.std.proofs.Common.{length}
use Rattle.checker.proofs.ChildLaws.{to_come}
use Rattle.checker.proofs.WinnerLaws.{HasListed}
use Rattle.checker.proofs.ends.seats_listed.Given as goal

abbrev pub invariant-loop-next : goal.invariant-loop-next
invariant-loop-next l = HasListed l.children l.next l.seats

abbrev pub decreases-loop-next : goal.decreases-loop-next
decreases-loop-next l = length (to_come l.next)
