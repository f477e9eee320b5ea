-- The bits of the cards so far, and the branches that are to come.
use Rattle.certificate_graph.specs.Trees.{branches_size}
use Rattle.checker.proofs.BranchLaws.{to_come, HasPut}
use Rattle.checker.proofs.card_sets.branch_set.Given as goal

abbrev pub invariant-loop-next : goal.invariant-loop-next
invariant-loop-next l = HasPut l.branches (to_come l.next) l.set

abbrev pub decreases-loop-next : goal.decreases-loop-next
decreases-loop-next l = branches_size (to_come l.next)
