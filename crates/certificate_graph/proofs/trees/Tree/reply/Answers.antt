use Rattle.std.proofs.Common.{◌∙◌, refl}
use Rattle.certificate_graph.specs.OneTree.{same_tree}
use Rattle.certificate_graph.specs.Trees.{Reply, branches_of}
use Rattle.certificate_graph.proofs.RowLemmas.{begun_with}
use Rattle.certificate_graph.proofs.trees.Tree.reply.Goals as goal

pub of_row-requires : goal.of_row-requires
of_row-requires c = (
  Reply _,
  begun_with _ _ _ _ _ _ c.new-row.ensures.items c.in_ok-push.ensures.items refl c.in_ok-push_branches.ensures,
)

pub returns : goal.returns
returns c =
    same_tree c.in_ok-tree.tree (Reply (branches_of c.args.branches.now))
    (c.in_ok-tree.ensures ∙ begun_with _ _ _ _ _ _ c.new-row.ensures.items c.in_ok-push.ensures.items refl c.in_ok-push_branches.ensures)
