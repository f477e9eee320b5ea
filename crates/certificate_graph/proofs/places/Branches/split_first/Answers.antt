use Rattle.std.proofs.Common.{length, sym, ◌∙◌, ap, ap₂}
use Rattle.certificate_graph.specs.Trees.{Branch}
use Rattle.certificate_graph.specs.OneTree.{same_tree, same_branches}
use Rattle.certificate_graph.specs.Rows.{tree_row, branches_row}
use Rattle.certificate_graph.proofs.RowLemmas.{begun, branch_first, no_other_first, no_branch_left, cut}
use Rattle.certificate_graph.proofs.places.Branches.split_first.Goals as goal

pub returns-in_default : goal.returns-in_default
returns-in_default c = no_branch_left c.args.self.now (ap length (sym c.row-row.ensures) ∙ c.in_default.ensures.cases)

pub unreachable-requires : goal.unreachable-requires
unreachable-requires c =
    no_other_first c.args.self.now c.in-Some.first.now c.in-Some.rest.now c.in_default-first.not-Branch (sym c.in-Some.ensures.cases.0 ∙ c.row-row.ensures)

pub split_at-requires : goal.split_at-requires
split_at-requires c =
    let found = branch_first c.args.self.now c.in-Branch.card c.in-Branch.count c.in-Some.rest.now
    (begun c.row-row.result.now c.in-Some.rest.now c.in-Some.first.now _ c.in-Some.ensures.cases.0 c.in-Branch.is ∙ c.row-row.ensures) in
    (cut (tree_row found.0) (branches_row found.1) c.in-Some.rest.now c.in-Branch.count found.3 found.4).0

pub of_row-requires : goal.of_row-requires
of_row-requires c =
    let found = branch_first c.args.self.now c.in-Branch.card c.in-Branch.count c.in-Some.rest.now
    (begun c.row-row.result.now c.in-Some.rest.now c.in-Some.first.now _ c.in-Some.ensures.cases.0 c.in-Branch.is ∙ c.row-row.ensures) in
    (found.0, c.split_at.ensures.front ∙ (cut (tree_row found.0) (branches_row found.1) c.in-Some.rest.now c.in-Branch.count found.3 found.4).1)

pub of_row-requires-2 : goal.of_row-requires-2
of_row-requires-2 c =
    let found = branch_first c.args.self.now c.in-Branch.card c.in-Branch.count c.in-Some.rest.now
    (begun c.row-row.result.now c.in-Some.rest.now c.in-Some.first.now _ c.in-Some.ensures.cases.0 c.in-Branch.is ∙ c.row-row.ensures) in
    (found.1, c.split_at.ensures.back ∙ (cut (tree_row found.0) (branches_row found.1) c.in-Some.rest.now c.in-Branch.count found.3 found.4).2)

pub returns : goal.returns
returns c =
    let found = branch_first c.args.self.now c.in-Branch.card c.in-Branch.count c.in-Some.rest.now
    (begun c.row-row.result.now c.in-Some.rest.now c.in-Some.first.now _ c.in-Some.ensures.cases.0 c.in-Branch.is ∙ c.row-row.ensures) in
    let parts = cut (tree_row found.0) (branches_row found.1) c.in-Some.rest.now c.in-Branch.count found.3 found.4 in
    let below = same_tree found.0 c.of_row.result (sym (c.of_row.ensures ∙ (c.split_at.ensures.front ∙ parts.1))) in
    let others = same_branches found.1 c.of_row-2.result (sym (c.of_row-2.ensures ∙ (c.split_at.ensures.back ∙ parts.2))) in
    sym found.2 ∙ ap₂ (λ b o. Branch c.in-Branch.card b o) below others
