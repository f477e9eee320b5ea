use Rattle.std.proofs.Common.{◌∷◌, ◌++◌, [], length, sym, ◌∙◌, ap, append_assoc, append-nil, arith}
use Rattle.certificate_graph.specs.Trees.{Own, Reply, NoBranch, Branch}
use Rattle.certificate_graph.specs.Rows.{tree_row, branches_row}
use Rattle.certificate_graph.specs.declared.rows.Token.TheVariants as token
use Rattle.certificate_graph.proofs.LeafLemmas.{ends_map, stops_map}
use Rattle.certificate_graph.proofs.RowLemmas.{branch_ended}
use Rattle.certificate_graph.proofs.TreeLemmas.{no_reply, no_own, no_branch_card, no_branch_tree, branch_begun, leaf_tree, lacks_leaf, no_room, reply_tree, lacks_reply, own_tree, lacks_own, lacks_by_first, lacks_by_card, lacks_by_rest, branches_read}
use Rattle.certificate_graph.proofs.tree_reading.+tree.Goals as goal

pub read_tree-returns-in-Some : goal.read_tree-returns-in-Some
read_tree-returns-in-Some t c =
    let text = c.args.cursor.now.rest.now in
    ends_map c.read_leaf.result
    (λ rest begins. (begins.0, leaf_tree c.args.room text _ begins.0 _ c.in-Some.ensures begins.1, begins.2))
    (λ lacks. lacks_leaf c.args.room text _ c.in-Some.ensures lacks)
    c.read_leaf.ensures

pub read_tree-returns-then-room-eq0 : goal.read_tree-returns-then-room-eq0
read_tree-returns-then-room-eq0 t c = no_room c.args.room c.args.cursor.now.rest.now c.in_default.ensures c.if-room-eq0.true

pub read_tree-returns-in-Some-after_byte : goal.read_tree-returns-in-Some-after_byte
read_tree-returns-in-Some-after_byte t c =
    let text = c.args.cursor.now.rest.now in
    ends_map c.read_reply.result
    (λ rest begins. (begins.0, reply_tree c.args.room text _ begins.0 _ (omega arith) c.in-Some-after_byte.ensures begins.1, begins.2))
    (λ lacks. lacks_reply c.args.room text _ c.in-Some-after_byte.ensures lacks)
    c.read_reply.ensures

pub read_tree-returns : goal.read_tree-returns
read_tree-returns t c =
    let text = c.args.cursor.now.rest.now in
    ends_map c.read_own.result
    (λ rest begins. (begins.0, own_tree c.args.room text begins.0 _ (omega arith) begins.1, begins.2))
    (λ lacks. lacks_own c.args.room text c.in_default.ensures c.in_default-after_byte.ensures lacks)
    c.read_own.ensures

pub read_own-returns : goal.read_own-returns
read_own-returns t c =
    let text = c.args.cursor.now.rest.now in
    let card = c.in-Some.card in
    let after = c.in-Some.rest.now in
    let before = c.args.row.now.items in
    ends_map c.read_tree.result
    (λ rest begins. (
      Own card begins.0,
      branch_begun c.args.room text card after begins.0 _ c.in-Some.ensures begins.1,
      begins.2 ∙ (ap (λ list. list ++ tree_row begins.0) c.in-Ok.ensures.items ∙ append_assoc before (token.Own card ∷ []) (tree_row begins.0)),
    ))
    (λ lacks. no_own c.args.room text (no_branch_tree c.args.room text card after c.in-Some.ensures lacks))
    c.read_tree.ensures

pub read_reply-returns : goal.read_reply-returns
read_reply-returns t c =
    let before = c.args.row.now.items in
    ends_map c.read_branches.result
    (λ rest begins. (
      Reply begins.0,
      begins.1,
      begins.2 ∙ (ap (λ list. list ++ branches_row begins.0) c.in-Ok.ensures.items ∙ append_assoc before (token.Reply ∷ []) (branches_row begins.0)),
    ))
    (λ lacks. no_reply c.args.room c.args.cursor.now.rest.now lacks)
    c.read_branches.ensures

pub read_branches-returns-in-Some : goal.read_branches-returns-in-Some
read_branches-returns-in-Some t c = (NoBranch, record { form = tt; numbers = tt; is = c.in-Some.ensures }, sym (append-nil c.args.row.now.items))

pub read_branches-returns-in_default-read_card : goal.read_branches-returns-in_default-read_card
read_branches-returns-in_default-read_card t c =
    let text = c.args.cursor.now.rest.now in
    lacks_by_first c.args.room c.args.least text c.in_default.ensures (no_branch_card c.args.room text c.in_default-read_card.ensures)

pub read_branches-returns-in_default-next_place : goal.read_branches-returns-in_default-next_place
read_branches-returns-in_default-next_place t c =
    lacks_by_card c.args.room c.args.least c.args.cursor.now.rest.now c.in-Some-read_card.card _ c.in_default.ensures
    c.in-Some-read_card.ensures c.in_default-next_place.ensures

pub read_branches-returns-in-Err : goal.read_branches-returns-in-Err
read_branches-returns-in-Err t c =
    let text = c.args.cursor.now.rest.now in
    stops_map _ _ c.in-Err.stop
    (λ lacks. lacks_by_first c.args.room c.args.least text c.in_default.ensures
    (no_branch_tree c.args.room text c.in-Some-read_card.card _ c.in-Some-read_card.ensures lacks))
    c.in-Err.ensures

pub read_branches-returns-in-Ok : goal.read_branches-returns-in-Ok
read_branches-returns-in-Ok t c =
    let next = c.in-Some-next_place.ensures in
    let text = c.args.cursor.now.rest.now in
    let card = c.in-Some-read_card.card in
    let before = c.args.row.now.items in
    let tree = c.in-Ok.ensures in
    let below = tree.0 in
    let first = branch_begun c.args.room text card _ below _ c.in-Some-read_card.ensures tree.1 in
    ends_map c.read_branches.result
    (λ rest begins. (
      Branch card below begins.0,
      branches_read c.args.room c.args.least text card below _ begins.0 _ first next.0 (rw next.1 at begins.1),
      begins.2 ∙ (ap (λ list. list ++ branches_row begins.0) tree.2
          ∙ append_assoc before (token.Branch card (length (tree_row below)) ∷ tree_row below) (branches_row begins.0)),
    ))
    (λ lacks. lacks_by_rest c.args.room c.args.least text card below _ c.in_default.ensures first (rw next.1 at lacks))
    c.read_branches.ensures

pub read_branch-returns-in-Ok-end_branch : goal.read_branch-returns-in-Ok-end_branch
read_branch-returns-in-Ok-end_branch t c =
    let before = c.args.row.now.items in
    let card = c.args.card in
    let tree = c.in-Ok-read_tree.ensures in (
      tree.0,
      tree.1,
      c.in-Ok-end_branch.ensures
          ∙ branch_ended before (tree_row tree.0) _ card c.len-place.result (omega (arith, c.len-place.ensures, c.args.row.now.ok.0))
          (tree.2 ∙ (ap (λ list. list ++ tree_row tree.0) c.in-Ok.ensures.items ∙ append_assoc before (token.Branch card 0 ∷ []) (tree_row tree.0))),
    )
