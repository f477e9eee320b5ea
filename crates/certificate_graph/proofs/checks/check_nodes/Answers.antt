use Rattle.std.proofs.Common.{length, subst, arith}
use Rattle.std.proofs.lemmas.List.Elements.{All-more}
use Rattle.std.proofs.lemmas.List.{take_all}
use Rattle.certificate_graph.specs.Graphs.{IsNode}
use Rattle.certificate_graph.specs.GraphFaults.{IsGraphFault}
use Rattle.certificate_graph.proofs.NodeLemmas.{graph_fault, fault_out}
use Rattle.certificate_graph.proofs.checks.check_nodes.Goals as goal

pub returns-then-are_too_many : goal.returns-then-are_too_many
returns-then-are_too_many c = omega arith

pub returns-in_err-check_node : goal.returns-in_err-check_node
returns-in_err-check_node c =
    let nodes = c.args.nodes.now in
    let i = c.loop-node.node-index in
    let node = c.node-item.result in
    let told = graph_fault nodes i node c.in_err-check_node.field-0.0 (omega arith) (omega arith) c.loop-node.invariant c.node-item.is c.in_err-check_node.ensures in
    fault_out _ (IsGraphFault nodes) c.from_residual.result _ c.from_residual.ensures.1 told

pub loop-node-preserved : goal.loop-node-preserved
loop-node-preserved c =
    let nodes = c.args.nodes.now in
    All-more (IsNode (length nodes)) nodes c.loop-node.node-index c.node-item.result (omega arith) c.loop-node.invariant
    (subst (IsNode (length nodes)) c.node-item.is c.in_ok-check_node.ensures)

pub returns : goal.returns
returns c =
    let nodes = c.args.nodes.now in
    record {
      size = omega arith;
      each = (let all = take_all c.loop-node.node-index nodes (omega arith) in rw all at c.loop-node.invariant);
    }
