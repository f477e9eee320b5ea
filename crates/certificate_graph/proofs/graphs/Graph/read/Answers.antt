use Rattle.std.proofs.Common.{refl, inl, inr}
use Rattle.certificate_graph.proofs.ReadLemmas.{heads_are, fault_after, count_fault, nodes_answer, answer_fault, graph_read}
use Rattle.certificate_graph.proofs.graphs.Graph.read.Goals as goal

pub returns-in_default-read_side : goal.returns-in_default-read_side
returns-in_default-read_side c =
    inr (inr (_, _, c.in-Some.ensures, inr (_, _, c.in-Some-read_trump.ensures, inl (refl, c.in_default-read_side.ensures))))

pub returns-in_err-count : goal.returns-in_err-count
returns-in_err-count c =
    let text = c.args.text.now in
    let heads = heads_are text _ _ _ _ _ _ c.in-Some.ensures c.in-Some-read_trump.ensures c.in-Some-read_side.ensures in
    let fault = c.in_err-count.field-0.0 in
    answer_fault text c.from_residual.result fault c.from_residual.ensures.1
    (inr (fault_after text _ _ _ _ fault heads (count_fault _ fault c.in_err-count.ensures)))

pub returns-in_err-nodes : goal.returns-in_err-nodes
returns-in_err-nodes c =
    let text = c.args.text.now in
    let heads = heads_are text _ _ _ _ _ _ c.in-Some.ensures c.in-Some-read_trump.ensures c.in-Some-read_side.ensures in
    let fault = c.in_err-nodes.field-0.0 in
    answer_fault text c.from_residual-in_err-nodes.result fault c.from_residual-in_err-nodes.ensures.1
    (nodes_answer text _ _ _ _ c.in_ok-count.count _ fault heads c.in_ok-count.ensures c.in_err-nodes.ensures)

pub returns : goal.returns
returns c =
    let text = c.args.text.now in
    let heads = heads_are text _ _ _ _ _ _ c.in-Some.ensures c.in-Some-read_trump.ensures c.in-Some-read_side.ensures in
    inr (graph_read text _ _ _ _ c.in_ok-count.count _ c.in_ok-nodes.nodes.items heads c.in_ok-count.ensures c.in_ok-nodes.ensures)
