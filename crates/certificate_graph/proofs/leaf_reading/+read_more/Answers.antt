use Rattle.std.proofs.Common.{◌∷◌, ◌++◌, [], ◌∙◌, ap, append_assoc, arith}
use Rattle.certificate_graph.specs.Rows.{children_row}
use Rattle.certificate_graph.specs.declared.rows.Token.TheVariants as token
use Rattle.certificate_graph.proofs.LeafLemmas.{ends_map, lacks_by_blank, lacks_by_child, lacks_by_seat, lacks_by_more, more_read}
use Rattle.certificate_graph.proofs.leaf_reading.+read_more.Goals as goal

pub returns-in_default-after_byte : goal.returns-in_default-after_byte
returns-in_default-after_byte t c = lacks_by_blank c.args.least c.args.cursor.now.rest.now c.in_default.ensures c.in_default-after_byte.ensures

pub returns-in_default-read_child : goal.returns-in_default-read_child
returns-in_default-read_child t c =
    lacks_by_child c.args.least c.args.cursor.now.rest.now _ c.in_default.ensures c.in-Some-after_byte.ensures c.in_default-read_child.ensures

pub returns-then-seat-least : goal.returns-then-seat-least
returns-then-seat-least t c =
    let seat = c.number-seat.ensures.place in
    lacks_by_seat c.args.least c.args.cursor.now.rest.now _ _ _ c.in_default.ensures c.in-Some-after_byte.ensures c.in-Some-read_child.ensures (omega arith)

pub returns : goal.returns
returns t c =
    let seat = c.number-seat.ensures.place in
    let text = c.args.cursor.now.rest.now in
    let child = c.in-Some-read_child.child in
    let after = c.in-Some-read_child.rest.now in
    let before = c.args.row.now.items in
    ends_map c.read_more.result
    (λ rest begins. (
      child ∷ begins.0,
      more_read c.args.least text _ child after begins.0 _ c.in-Some-after_byte.ensures c.in-Some-read_child.ensures (omega arith) (rw seat at begins.1),
      begins.2 ∙ (ap (λ list. list ++ children_row begins.0) c.in-Ok.ensures.items ∙ append_assoc before (token.Child child.winner child.number ∷ []) (children_row begins.0)),
    ))
    (λ lacks. lacks_by_more c.args.least text _ child after c.in_default.ensures c.in-Some-after_byte.ensures c.in-Some-read_child.ensures (rw seat at lacks))
    c.read_more.ensures
