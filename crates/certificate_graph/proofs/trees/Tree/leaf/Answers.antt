use Rattle.std.proofs.Common.{◌++◌, ◌∙◌, ap}
use Rattle.certificate_graph.specs.OneTree.{same_tree}
use Rattle.certificate_graph.specs.Rows.{children_row}
use Rattle.certificate_graph.specs.Trees.{Leaf}
use Rattle.certificate_graph.proofs.trees.Tree.leaf.Goals as goal

pub of_row-requires : goal.of_row-requires
of_row-requires c =
    (Leaf c.args.children.now, c.in_ok-push_children.ensures ∙ ap (λ l. l ++ children_row c.args.children.now) c.new-row.ensures.items)

pub returns : goal.returns
returns c =
    same_tree c.in_ok-tree.tree (Leaf c.args.children.now)
    (c.in_ok-tree.ensures ∙ (c.in_ok-push_children.ensures ∙ ap (λ l. l ++ children_row c.args.children.now) c.new-row.ensures.items))
