use Rattle.play_evidence.proofs.node_finding.+push_nodes.Given as goal

abbrev pub decreases-push_nodes : goal.decreases-push_nodes
decreases-push_nodes l = l.count
