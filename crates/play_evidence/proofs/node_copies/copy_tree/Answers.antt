use Rattle.std.proofs.Common.{◌∙◌}
use Rattle.certificate_graph.specs.OneTree.{same_tree}
use Rattle.play_evidence.proofs.node_copies.copy_tree.Goals as goal

pub returns : goal.returns
returns c =
    let copied = rw c.in-Some.is at c.in_ok-copy.ensures in
    same_tree c.in-Some.copy c.args.tree.now (copied ∙ (c.in_ok-row.ensures.items ∙ c.tokens.ensures))
