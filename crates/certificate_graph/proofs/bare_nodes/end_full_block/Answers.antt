use Rattle.certificate_graph.proofs.BareLemmas.{holds_these, on_ok}
use Rattle.certificate_graph.proofs.bare_nodes.end_full_block.Goals as goal

pub returns : goal.returns
returns c =
    let nodes = c.end_block.new.nodes.items in
    on_ok c.end_block.result _ _
    (λ ended all holds. holds_these nodes all c.end_block.new.bares.items c.end_block.new.row.items ended.0 ended.1 (ended.2 all holds))
    c.end_block.ensures
