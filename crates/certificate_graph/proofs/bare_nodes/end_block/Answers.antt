use Rattle.certificate_graph.specs.BareNodes.{Gets}
use Rattle.certificate_graph.proofs.BareLemmas.{gets_all}
use Rattle.certificate_graph.proofs.bare_nodes.end_block.Goals as goal

pub returns : goal.returns
returns c =
    let bares = c.args.bares.now.items in
    let row = c.args.row.now.items in
    let nodes = c.args.nodes.now.items in
    let grown = c.push_nodes.new.nodes.items in
    let gets : Gets bares row nodes grown = (rw (← c.as_slice.ensures.value, ← c.as_slice-2.ensures.value) c.in_ok-push_nodes.ensures.gets) in
    (c.clear.ensures.items, c.clear-2.ensures.items, λ all holds. gets_all bares row nodes grown all gets holds)
