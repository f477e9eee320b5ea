-- All is right below the branches so far.
use Rattle.certificate_graph.specs.Trees.{tree_size, branches_size}
use Rattle.checker.proofs.BranchLaws.{to_come, TellOfAll}
use Rattle.checker.proofs.walks.+walk.Given as goal

abbrev pub decreases-check_branches : goal.decreases-check_branches
decreases-check_branches l = branches_size l.branches.now

abbrev pub decreases-check_place : goal.decreases-check_place
decreases-check_place l = tree_size l.place.now

abbrev pub invariant-check_branches-loop-next : goal.invariant-check_branches-loop-next
invariant-check_branches-loop-next l = TellOfAll l.graph l.node l.played l.branches (to_come l.next)

abbrev pub decreases-check_branches-loop-next : goal.decreases-check_branches-loop-next
decreases-check_branches-loop-next l = branches_size (to_come l.next)
