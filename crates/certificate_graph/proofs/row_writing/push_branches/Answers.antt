use Rattle.std.proofs.Common.{arith}
use Rattle.certificate_graph.proofs.RowLemmas.{branch_pushed}
use Rattle.certificate_graph.proofs.row_writing.push_branches.Goals as goal

pub loop-branch-preserved : goal.loop-branch-preserved
loop-branch-preserved c =
    branch_pushed c.args.row.now.items c.loop-branch.row.items _ c.args.branches.now c.loop-branch.branch-index c.branch-item.result
    (omega arith) c.branch-item.is c.loop-branch.invariant c.in_ok-push_branch.ensures
