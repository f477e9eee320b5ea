-- The children so far are right.
use Rattle.std.proofs.Common.{length}
use Rattle.checker.proofs.ChildLaws.{to_come, TellOfAll}
use Rattle.checker.proofs.ends.check_children.Given as goal

abbrev pub invariant-loop-next : goal.invariant-loop-next
invariant-loop-next l = TellOfAll l.graph l.node l.trick l.children (to_come l.next)

abbrev pub decreases-loop-next : goal.decreases-loop-next
decreases-loop-next l = length (to_come l.next)
