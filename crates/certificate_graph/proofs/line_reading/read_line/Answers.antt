use Rattle.std.proofs.Common.{◌≡◌, ◌-◌, ◌++◌, length, ap, arith, length-append}
use Rattle.certificate_graph.specs.Rows.{tree_row}
use Rattle.certificate_graph.specs.Suits.{shape_read}
use Rattle.certificate_graph.proofs.LineLemmas.{node_by_suits, node_by_tree, node_by_end, node_begun}
use Rattle.certificate_graph.proofs.line_reading.read_line.Goals as goal

pub returns-in_default-read_suits : goal.returns-in_default-read_suits
returns-in_default-read_suits c = node_by_suits c.args.text.now _ _ _ c.in-Some.ensures c.in_default-read_suits.ensures

pub returns-in-Err-Other : goal.returns-in-Err-Other
returns-in-Err-Other c =
    let lacks = (rw c.in-Err-Other.field-0-is at c.in-Err-Other.ensures) in
    node_by_tree c.args.text.now _ _ _ _ _ c.in-Some.ensures c.in-Some-read_suits.ensures.1 lacks

pub returns-in_default-after_byte : goal.returns-in_default-after_byte
returns-in_default-after_byte c =
    let tree = c.in-Ok.ensures in
    node_by_end c.args.text.now _ _ _ _ _ tree.0 _ c.in-Some.ensures c.in-Some-read_suits.ensures.1 tree.1 c.in_default-after_byte.ensures

pub returns : goal.returns
returns c =
    let tree = c.in-Ok.ensures in
    let pattern = shape_read c.in-Some-read_suits.suits in
    let before = c.args.row.now.items in
    let grown : c.read_tree.new.row.items ≡ before ++ tree_row tree.0 = tree.2 in
    let count : c.len.result - c.len-before.result ≡ length (tree_row tree.0) =
    omega (arith, c.len.ensures, c.len-before.ensures, ap length grown, length-append before (tree_row tree.0)) in (
      tree.0,
      grown,
      count,
      c.in-Some-read_suits.ensures.0,
      node_begun c.args.text.now c.in-Some.lead c.in-Some.need _ pattern _ tree.0 _ c.in-Some-after_byte.rest.now c.in-Some.ensures c.in-Some-read_suits.ensures.1 tree.1 c.in-Some-after_byte.ensures,
    )
