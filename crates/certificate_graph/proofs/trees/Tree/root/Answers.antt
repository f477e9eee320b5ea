use Rattle.std.proofs.Common.{◌∙◌}
use Rattle.certificate_graph.specs.OneTree.{same_tree}
use Rattle.certificate_graph.proofs.trees.Tree.root.Goals as goal

pub of_row-requires : goal.of_row-requires
of_row-requires c = (c.args.self.now, c.tokens.ensures)

pub returns : goal.returns
returns c = same_tree c.of_row.result c.args.self.now (c.of_row.ensures ∙ c.tokens.ensures)
