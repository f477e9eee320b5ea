use Rattle.std.proofs.Common.{length, ◌++◌, [], refl}
use Rattle.std.specs.Fmt.{decimal}
use Rattle.certificate_graph.specs.Texts.{count_text, nodes_text}
use Rattle.certificate_graph.proofs.TextParts.{graph-parts}
use Rattle.cards.proofs.WriteLemmas.{Writes-then}
use Rattle.certificate_graph.proofs.WriteLemmas.{writes_same, stops_within}
use Rattle.certificate_graph.proofs.graphs.Graph.write.Goals as goal

pub returns-in_err-write_heading : goal.returns-in_err-write_heading
returns-in_err-write_heading g c =
    let graph = c.args.self.now in
    let end = c.from_residual in
    let left = count_text (decimal (length graph.nodes)) [] ++ nodes_text graph.nodes [] in
    writes_same _ _ end.result (graph-parts graph)
    (stops_within _ _ end.result _ left end.ensures.1 refl (rw (c.version.ensures, c.trump.ensures, c.side.ensures) at c.in_err-write_heading.ensures))

pub returns-in_err-write_count : goal.returns-in_err-write_count
returns-in_err-write_count g c =
    let graph = c.args.self.now in
    let end = c.from_residual-in_err-write_count in
    writes_same _ _ end.result (graph-parts graph)
    (Writes-then end.result _ _ (rw (c.version.ensures, c.trump.ensures, c.side.ensures) at c.in_ok-write_heading.ensures)
    (stops_within _ _ end.result _ (nodes_text graph.nodes []) end.ensures.1 refl (rw c.nodes-nodes.ensures at c.in_err-write_count.ensures)))

pub write_nodes-requires : goal.write_nodes-requires
write_nodes-requires g c = rw c.nodes-nodes.ensures (λ k d h. (4, (c.invariant.ensures.each k d h).form))

pub returns : goal.returns
returns g c =
    let done = c.write_nodes.result in
    writes_same _ _ done (graph-parts c.args.self.now)
    (Writes-then done _ _ (rw (c.version.ensures, c.trump.ensures, c.side.ensures) at c.in_ok-write_heading.ensures)
    (Writes-then done _ _ (rw c.nodes-nodes.ensures at c.in_ok-write_count.ensures) (rw c.nodes-nodes.ensures at c.write_nodes.ensures)))
