use Rattle.std.proofs.Common.{refl}
use Rattle.certificate_graph.proofs.TextParts.{node-parts}
use Rattle.cards.proofs.WriteLemmas.{Writes-then}
use Rattle.certificate_graph.proofs.WriteLemmas.{writes_same, stops_within}
use Rattle.certificate_graph.proofs.line_writing.write_node.Goals as goal

pub returns-in_err-write_claim : goal.returns-in_err-write_claim
returns-in_err-write_claim g c =
    let node = c.args.node.now in
    let end = c.from_residual in
    writes_same _ _ end.result (node-parts node) (stops_within _ _ end.result _ _ end.ensures.1 refl c.in_err-write_claim.ensures)

pub returns-in_err-write_pattern : goal.returns-in_err-write_pattern
returns-in_err-write_pattern g c =
    let node = c.args.node.now in
    let end = c.from_residual-in_err-write_pattern in
    writes_same _ _ end.result (node-parts node) (Writes-then end.result _ _ c.in_ok-write_claim.ensures
    (stops_within _ _ end.result _ _ end.ensures.1 refl c.in_err-write_pattern.ensures))

pub returns-in_err-write_all : goal.returns-in_err-write_all
returns-in_err-write_all g c =
    let node = c.args.node.now in
    let end = c.from_residual-in_err-write_all in
    writes_same _ _ end.result (node-parts node) (Writes-then end.result _ _ c.in_ok-write_claim.ensures
    (Writes-then end.result _ _ c.in_ok-write_pattern.ensures
    (stops_within _ _ end.result _ _ end.ensures.1 refl c.in_err-write_all.ensures)))

pub returns-in_err-write_tree : goal.returns-in_err-write_tree
returns-in_err-write_tree g c =
    let node = c.args.node.now in
    let end = c.from_residual-in_err-write_tree in
    writes_same _ _ end.result (node-parts node) (Writes-then end.result _ _ c.in_ok-write_claim.ensures
    (Writes-then end.result _ _ c.in_ok-write_pattern.ensures (Writes-then end.result _ _ c.in_ok-write_all.ensures
    (stops_within _ _ end.result _ _ end.ensures.1 refl (rw c.root.ensures at c.in_err-write_tree.ensures)))))

pub returns : goal.returns
returns g c =
    let node = c.args.node.now in
    let done = c.write_all-2.result in
    writes_same _ _ done (node-parts node) (Writes-then done _ _ c.in_ok-write_claim.ensures
    (Writes-then done _ _ c.in_ok-write_pattern.ensures (Writes-then done _ _ c.in_ok-write_all.ensures
    (Writes-then done _ _ (rw c.root.ensures at c.in_ok-write_tree.ensures) c.write_all-2.ensures))))
