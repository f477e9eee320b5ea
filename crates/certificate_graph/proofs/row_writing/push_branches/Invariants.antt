-- The row has grown by the first branches.
use Rattle.std.proofs.Common.{◌≡◌, ◌++◌, take}
use Rattle.certificate_graph.specs.Rows.{branches_row}
use Rattle.certificate_graph.specs.Trees.{branches_of}
use Rattle.certificate_graph.proofs.row_writing.push_branches.Given as goal

abbrev pub invariant-loop-branch : goal.invariant-loop-branch
invariant-loop-branch l = l.row.items ≡ l.fn.row.items ++ branches_row (branches_of (take l.branch-index l.branches))
