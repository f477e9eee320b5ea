use Rattle.std.proofs.Common.{List, arith, sym, subst}
use Rattle.certificate_graph.specs.declared.nodes.Node.{Node}
use Rattle.certificate_graph.specs.TextFaults.{StopsAt}
use Rattle.certificate_graph.specs.Readings.{MayFail, AreAllNodes}
use Rattle.certificate_graph.proofs.BareLemmas.{none_read, one_read, some_wait}
use Rattle.certificate_graph.proofs.NodeLemmas.{fault_out, line_stops, empty_rest, some_rest, end_stops, all_read}
use Rattle.certificate_graph.proofs.node_reading.read_nodes.Goals as goal

pub loop-number-init : goal.loop-number-init
loop-number-init c =
    none_read c.args.count c.args.text.now _ _ _ c.in-Ok.ensures.items c.new-bares.ensures.items c.new-row.ensures.items

pub end_full_block-requires : goal.end_full_block-requires
end_full_block-requires c =
    let so_far = c.loop-number.invariant in
    let some = some_wait c.args.count c.args.text.now _ _ _ _ _ _ _ c.in_ok-node.node so_far c.in_ok-node.ensures in
    rw c.in-Ok-push.ensures.items some

pub loop-number-preserved : goal.loop-number-preserved
loop-number-preserved c =
    one_read c.args.count c.args.text.now _ _ _ _ _ _ _ _ _ _ c.in_ok-node.node c.loop-number.invariant c.in_ok-node.ensures
    (λ all holds. c.in-Ok-end_full_block.ensures all (rw c.in-Ok-push.ensures.items holds))

pub returns-in_err-node : goal.returns-in_err-node
returns-in_err-node c =
    let so_far = c.loop-number.invariant in
    let text = c.args.text.now in
    let fault = c.in_err-node.field-0.0 in
    let told = line_stops c.args.count text so_far.read c.loop-number.cursor.rest.now c.loop-number.number fault so_far.is so_far.each so_far.all (omega arith) c.in_err-node.ensures in
    fault_out _ (MayFail (StopsAt c.args.count text)) c.from_residual.result fault c.from_residual.ensures.1 told

pub returns-then-not-is_empty : goal.returns-then-not-is_empty
returns-then-not-is_empty c =
    let so_far = c.loop-number.invariant in
    let rest = c.loop-number.cursor.rest.now in
    end_stops c.args.count c.args.text.now so_far.read rest so_far.is so_far.each (omega (arith, so_far.all))
    (some_rest rest c.is_empty.result c.is_empty.ensures c.if-not-is_empty.true)

pub end_block-requires : goal.end_block-requires
end_block-requires c =
    let so_far = c.loop-number.invariant in
    (so_far.holds.0, so_far.holds.1)

pub returns : goal.returns
returns c =
    let so_far = c.loop-number.invariant in
    let rest = c.loop-number.cursor.rest.now in
    let count = c.args.count in
    let text = c.args.text.now in
    subst (λ (l : List Node). AreAllNodes count text l) (sym (c.in-Ok-end_block.ensures.2 so_far.read so_far.holds))
    (all_read count text so_far.read rest so_far.is so_far.each (omega (arith, so_far.all))
    (empty_rest rest c.is_empty.result c.is_empty.ensures c.if-not-is_empty.false))
