use Rattle.std.proofs.Common.{◌∙◌}
use Rattle.certificate_graph.specs.OneTree.{same_tree}
use Rattle.certificate_graph.specs.Trees.{Own}
use Rattle.certificate_graph.proofs.RowLemmas.{begun_with}
use Rattle.certificate_graph.proofs.trees.Tree.own.Goals as goal

pub of_row-requires : goal.of_row-requires
of_row-requires c = (
  Own _ _,
  begun_with _ _ _ _ _ _ c.new-row.ensures.items c.in_ok-push.ensures.items c.tokens.ensures c.in_ok-extend_from_slice.ensures.items,
)

pub returns : goal.returns
returns c =
    same_tree c.in_ok-tree.tree (Own c.args.card c.args.below.now)
    (c.in_ok-tree.ensures
    ∙ begun_with _ _ _ _ _ _ c.new-row.ensures.items c.in_ok-push.ensures.items c.tokens.ensures c.in_ok-extend_from_slice.ensures.items)
