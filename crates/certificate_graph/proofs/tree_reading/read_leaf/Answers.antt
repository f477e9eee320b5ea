use Rattle.certificate_graph.specs.Trees.{Leaf}
use Rattle.certificate_graph.proofs.LeafLemmas.{ends_map}
use Rattle.certificate_graph.proofs.TreeLemmas.{no_leaf}
use Rattle.certificate_graph.proofs.tree_reading.read_leaf.Goals as goal

pub returns : goal.returns
returns c =
    ends_map c.read_children.result
    (λ rest begins. (Leaf begins.0, begins.1, begins.2))
    (λ lacks. no_leaf c.args.cursor.now.rest.now lacks)
    c.read_children.ensures
