use Rattle.std.proofs.Common.{[], refl, sym, ◌∙◌, arith}
use Rattle.std.proofs.lemmas.Bool.{false≢true}
use Rattle.patterns.proofs.SeatLaws.{not_told}
use Rattle.certificate_graph.specs.Trees.{Leaf, NoBranch}
use Rattle.certificate_graph.specs.Rows.{IsTreeRow, tree_row, branches_row}
use Rattle.certificate_graph.proofs.RowLemmas.{begun, own_row, reply_row, leaf_row, branch_row, no_rest, no_other_first, no_branch_first, branch_first, cut, told_row}
use Rattle.certificate_graph.proofs.rows.+row.Goals as goal

pub is_tree_row-returns-in_default : goal.is_tree_row-returns-in_default
is_tree_row-returns-in_default t c = (λ yes. (Leaf [], no_rest c.args.row.now c.in_default.ensures.cases), λ is. refl)

pub is_tree_row-returns-in-Own : goal.is_tree_row-returns-in-Own
is_tree_row-returns-in-Own t c =
    told_row IsTreeRow _ c.args.row.now c.is_tree_row.ensures (own_row c.in-Own.field-0 c.in-Some.rest.now)
    (begun c.args.row.now c.in-Some.rest.now c.in-Some.first.now _ c.in-Some.ensures.cases.0 c.in-Own.is)

pub is_tree_row-returns-in-Reply : goal.is_tree_row-returns-in-Reply
is_tree_row-returns-in-Reply t c =
    told_row IsTreeRow _ c.args.row.now c.are_branches_row.ensures (reply_row c.in-Some.rest.now)
    (begun c.args.row.now c.in-Some.rest.now c.in-Some.first.now _ c.in-Some.ensures.cases.0 c.in-Reply.is)

pub is_tree_row-returns-in-Child : goal.is_tree_row-returns-in-Child
is_tree_row-returns-in-Child t c =
    told_row IsTreeRow _ c.args.row.now c.are_children_row.ensures (leaf_row (record { winner = c.in-Child.field-0; number = c.in-Child.field-1 }) c.in-Some.rest.now)
    (begun c.args.row.now c.in-Some.rest.now c.in-Some.first.now _ c.in-Some.ensures.cases.0 c.in-Child.is)

pub is_tree_row-returns-in-Branch : goal.is_tree_row-returns-in-Branch
is_tree_row-returns-in-Branch t c = (
  λ no. absurd (false≢true no),
  λ is. absurd (no_branch_first is.0 _ _ c.in-Some.rest.now
      (begun c.args.row.now c.in-Some.rest.now c.in-Some.first.now _ c.in-Some.ensures.cases.0 c.in-Branch.is ∙ is.1)),
)

pub are_branches_row-returns-in_default : goal.are_branches_row-returns-in_default
are_branches_row-returns-in_default t c = (λ yes. (NoBranch, no_rest c.args.row.now c.in_default.ensures.cases), λ is. refl)

pub are_branches_row-returns-in_default-first : goal.are_branches_row-returns-in_default-first
are_branches_row-returns-in_default-first t c = (
  λ no. absurd (false≢true no),
  λ is. absurd (no_other_first is.0 c.in-Some.first.now c.in-Some.rest.now c.in_default-first.not-Branch (sym c.in-Some.ensures.cases.0 ∙ is.1)),
)

pub are_branches_row-returns-in_default-split_at_checked : goal.are_branches_row-returns-in_default-split_at_checked
are_branches_row-returns-in_default-split_at_checked t c = (
  λ no. absurd (false≢true no),
  λ is.
      let found = branch_first is.0 _ c.in-Branch.count c.in-Some.rest.now
      (begun c.args.row.now c.in-Some.rest.now c.in-Some.first.now _ c.in-Some.ensures.cases.0 c.in-Branch.is ∙ is.1) in
      let within = (cut (tree_row found.0) (branches_row found.1) c.in-Some.rest.now c.in-Branch.count found.3 found.4).0 in
      absurd (omega (arith, within, c.in_default-split_at_checked.ensures.cases)),
)

pub are_branches_row-returns-then-is_tree_row : goal.are_branches_row-returns-then-is_tree_row
are_branches_row-returns-then-is_tree_row t c =
    let parts = c.in-Some-split_at_checked.ensures.cases in
    let row = branch_row c.args.row.now c.in-Some.rest.now c.in-Some-split_at_checked.below.now c.in-Some-split_at_checked.others.now c.in-Some.first.now
    c.in-Branch.field-0 c.in-Branch.count c.in-Some.ensures.cases.0 c.in-Branch.is parts.0 parts.1 parts.2 in
    let tree = c.is_tree_row.ensures.0 c.if-is_tree_row.true in
    (λ yes. row.0 (tree, c.are_branches_row.ensures.0 yes), λ is. c.are_branches_row.ensures.1 (row.1 is).1)

pub are_branches_row-returns-else-is_tree_row : goal.are_branches_row-returns-else-is_tree_row
are_branches_row-returns-else-is_tree_row t c =
    let parts = c.in-Some-split_at_checked.ensures.cases in
    let row = branch_row c.args.row.now c.in-Some.rest.now c.in-Some-split_at_checked.below.now c.in-Some-split_at_checked.others.now c.in-Some.first.now
    c.in-Branch.field-0 c.in-Branch.count c.in-Some.ensures.cases.0 c.in-Branch.is parts.0 parts.1 parts.2 in
    (λ yes. absurd (not_told c.is_tree_row.ensures c.if-is_tree_row.false (c.is_tree_row.ensures.0 yes)), λ is. c.is_tree_row.ensures.1 (row.1 is).0)
