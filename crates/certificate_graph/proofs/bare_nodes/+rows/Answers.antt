use Rattle.std.proofs.Common.{◌∷◌, ◌++◌, length, ◌∙◌, ap, ap₂, arith}
use Rattle.std.proofs.lemmas.Bool.{false≢true}
use Rattle.std.proofs.lemmas.List.{length-take-le, take-append-drop}
use Rattle.patterns.proofs.SeatLaws.{not_told}
use Rattle.certificate_graph.proofs.BareLemmas.{first_apart, joined, with_tree}
use Rattle.certificate_graph.proofs.bare_nodes.+rows.Goals as goal

pub returns-in_default-split_at_checked : goal.returns-in_default-split_at_checked
returns-in_default-split_at_checked t c = (
  λ no. absurd (false≢true no),
  λ some.
      let found = first_apart c.args.bares.now c.in-Some.first.now c.in-Some.others.now c.args.row.now c.in-Some.ensures.cases.0 some in
      absurd (omega (arith, found.within, c.in_default-split_at_checked.ensures.cases)),
)

pub returns-then-is_tree_row : goal.returns-then-is_tree_row
returns-then-is_tree_row t c =
    let bares = c.args.bares.now in
    let first = c.in-Some.first.now in
    let others = c.in-Some.others.now in
    let row = c.args.row.now in
    let parts = c.in-Some-split_at_checked.ensures.cases in
    let tree = c.is_tree_row.ensures.0 c.if-is_tree_row.true in (
      λ yes.
          let rest = c.are_rows.ensures.0 yes in (
            with_tree first tree.0 ∷ rest.0,
            joined bares first others row c.in-Some-split_at_checked.tree.now c.in-Some-split_at_checked.rest.now tree.0 rest.0 c.in-Some.ensures.cases.0
                (ap₂ (λ x y. x ++ y) parts.1 parts.2 ∙ take-append-drop first.count row)
                (ap length parts.1 ∙ length-take-le first.count row parts.0) tree.1 rest.1,
          ),
      λ some.
          let found = first_apart bares first others row c.in-Some.ensures.cases.0 some in
          c.are_rows.ensures.1 (found.rest, record { bare = found.others_are; trees = parts.2 ∙ found.back }),
    )

pub returns-else-is_tree_row : goal.returns-else-is_tree_row
returns-else-is_tree_row t c =
    let parts = c.in-Some-split_at_checked.ensures.cases in (
      λ yes. absurd (not_told c.is_tree_row.ensures c.if-is_tree_row.false (c.is_tree_row.ensures.0 yes)),
      λ some.
          let found = first_apart c.args.bares.now c.in-Some.first.now c.in-Some.others.now c.args.row.now c.in-Some.ensures.cases.0 some in
          c.is_tree_row.ensures.1 (found.node.tree, parts.1 ∙ found.front),
    )
