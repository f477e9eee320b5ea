use Rattle.due_rows.proofs.nodes.+first_due_node.Given as goal

abbrev pub decreases-first_due_node : goal.decreases-first_due_node
decreases-first_due_node l = l.above
