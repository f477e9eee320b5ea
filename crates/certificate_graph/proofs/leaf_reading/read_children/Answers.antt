use Rattle.std.proofs.Common.{◌∷◌, ◌++◌, [], ◌∙◌, ap, append_assoc}
use Rattle.certificate_graph.specs.Rows.{children_row}
use Rattle.certificate_graph.specs.declared.rows.Token.TheVariants as token
use Rattle.certificate_graph.proofs.LeafLemmas.{ends_map, lacks_children_by_child, lacks_children_by_more, children_read}
use Rattle.certificate_graph.proofs.leaf_reading.read_children.Goals as goal

pub returns-in_default-read_child : goal.returns-in_default-read_child
returns-in_default-read_child c = lacks_children_by_child c.args.cursor.now.rest.now c.in_default.ensures c.in_default-read_child.ensures

pub returns : goal.returns
returns c =
    let seat = c.number.ensures.place in
    let text = c.args.cursor.now.rest.now in
    let child = c.in-Some-read_child.child in
    let after = c.in-Some-read_child.rest.now in
    let before = c.args.row.now.items in
    ends_map c.read_more.result
    (λ rest begins. (
      child ∷ begins.0,
      children_read text child after begins.0 _ c.in-Some-read_child.ensures (rw seat at begins.1),
      begins.2 ∙ (ap (λ list. list ++ children_row begins.0) c.in-Ok.ensures.items ∙ append_assoc before (token.Child child.winner child.number ∷ []) (children_row begins.0)),
    ))
    (λ lacks. lacks_children_by_more text child after c.in_default.ensures c.in-Some-read_child.ensures (rw seat at lacks))
    c.read_more.ensures

pub returns-in-Some-after_byte : goal.returns-in-Some-after_byte
returns-in-Some-after_byte c =
    let child = c.in-Some-read_child.child in (
      child ∷ [],
      children_read c.args.cursor.now.rest.now child c.in-Some-read_child.rest.now [] _ c.in-Some-read_child.ensures
          (record { rise = tt; short = tt; is = c.in-Some-after_byte.ensures }),
      c.in-Ok.ensures.items,
    )
