use Rattle.std.proofs.Common.{◌≡◌, ◌++◌, inl, inr, sym, ◌∙◌, ap, subst, arith}
use Rattle.certificate_graph.specs.declared.nodes.Node.{Node}
use Rattle.certificate_graph.specs.Graphs.{IsNode, greatest_count}
use Rattle.certificate_graph.specs.Rows.{tree_row}
use Rattle.certificate_graph.specs.Texts.{node_text}
use Rattle.certificate_graph.proofs.BareLemmas.{made_again}
use Rattle.certificate_graph.specs.TextFaults.{IsLineFault}
use Rattle.certificate_graph.proofs.OneAnswer.{no_line_fault}
use Rattle.certificate_graph.proofs.nodes.Node.read_line.Goals as goal

pub returns : goal.returns
returns c node rest is e = elim c.in-Err.ensures [
  | inl memory ↦ c.in_ok-unless_memory-in-Err.ensures memory
  | inr fault ↦ no_line_fault greatest_count 1 node rest c.in-Err.fault (omega arith) is (subst (λ text. IsLineFault greatest_count 1 text c.in-Err.fault) e fault)
]

pub returns-in-Ok : goal.returns-in-Ok
returns-in-Ok c =
    let reads = c.in-Ok.ensures in
    let node = reads.node in
    let made = c.in_ok-with_tree-in-Ok.field-0 in
    let same : made ≡ node =
    made_again c.in-Ok.said made node _ c.in_ok-with_tree-in-Ok.ensures reads.bare
    (reads.tree ∙ ap (λ l. l ++ tree_row node.tree) c.new-row.ensures.items) in
    subst (λ (n : Node). IsNode greatest_count n × (c.args.text.now ≡ node_text n c.read_node.new.cursor.rest.now)) (sym same) (reads.is_node, reads.is)
