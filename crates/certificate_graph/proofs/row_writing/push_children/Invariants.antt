-- The row has grown by the first children.
use Rattle.std.proofs.Common.{◌≡◌, ◌++◌, take}
use Rattle.certificate_graph.specs.Rows.{children_row}
use Rattle.certificate_graph.proofs.row_writing.push_children.Given as goal

abbrev pub invariant-loop-child : goal.invariant-loop-child
invariant-loop-child l = l.row.items ≡ l.fn.row.items ++ children_row (take l.child-index l.children)
