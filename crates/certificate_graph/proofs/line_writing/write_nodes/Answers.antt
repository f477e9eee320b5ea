use Rattle.std.proofs.Common.{[], ◌++◌, refl, sym, ◌∙◌, ap, subst, append_assoc, ◌+◌, drop, arith}
use Rattle.cards.proofs.DeviceLemmas.{Adds-twice}
use Rattle.certificate_graph.specs.declared.nodes.Node.{Node}
use Rattle.certificate_graph.specs.Graphs.{IsTree}
use Rattle.certificate_graph.specs.Texts.{node_text, nodes_text}
use Rattle.certificate_graph.proofs.TextParts.{nodes-from}
use Rattle.cards.proofs.WriteLemmas.{Writes-then}
use Rattle.certificate_graph.proofs.WriteLemmas.{writes_same, stops_within}
use Rattle.certificate_graph.proofs.line_writing.write_nodes.Goals as goal

pub write_node-requires : goal.write_node-requires
write_node-requires g c =
    subst (λ (node : Node). IsTree node.tree) (sym c.node-item.is) (c.requires c.loop-node.node-index c.node-item.result (omega arith))

pub returns-in_err-write_node : goal.returns-in_err-write_node
returns-in_err-write_node g c =
    let end = c.from_residual in
    let inv = c.loop-node.invariant in
    let left = nodes_text (drop (c.loop-node.node-index + 1) c.args.nodes.now) [] in
    writes_same _ _ end.result
    (ap (λ t. inv.so_far ++ t) (nodes-from c.args.nodes.now c.loop-node.node-index c.node-item.result (omega arith) c.node-item.is) ∙ inv.rest)
    (Writes-then end.result _ _ inv.wrote (stops_within _ _ end.result _ left end.ensures.1 refl c.in_err-write_node.ensures))

pub loop-node-preserved : goal.loop-node-preserved
loop-node-preserved g c =
    let inv = c.loop-node.invariant in
    let left = nodes_text (drop (c.loop-node.node-index + 1) c.args.nodes.now) [] in
    let text = node_text c.node-item.result [] in
    record {
      so_far = inv.so_far ++ text;
      wrote = Adds-twice inv.wrote c.in_ok-write_node.ensures;
      rest = append_assoc inv.so_far text left
          ∙ (ap (λ t. inv.so_far ++ t) (nodes-from c.args.nodes.now c.loop-node.node-index c.node-item.result (omega arith) c.node-item.is) ∙ inv.rest);
    }
