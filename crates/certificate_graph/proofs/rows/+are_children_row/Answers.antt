use Rattle.std.proofs.Common.{sym, ◌∙◌}
use Rattle.std.proofs.lemmas.Bool.{false≢true}
use Rattle.certificate_graph.specs.Rows.{AreChildrenRow}
use Rattle.certificate_graph.proofs.RowLemmas.{begun, children_more, no_child_first, told_row}
use Rattle.certificate_graph.proofs.rows.+are_children_row.Goals as goal

pub returns-in-Child : goal.returns-in-Child
returns-in-Child t c =
    told_row AreChildrenRow _ c.args.row.now c.are_children_row.ensures (children_more (record { winner = c.in-Child.field-0; number = c.in-Child.field-1 }) c.in-Some.rest.now)
    (begun c.args.row.now c.in-Some.rest.now c.in-Some.first.now _ c.in-Some.ensures.cases.0 c.in-Child.is)

pub returns-in_default-first : goal.returns-in_default-first
returns-in_default-first t c = (
  λ no. absurd (false≢true no),
  λ is. absurd (no_child_first is.0 c.in-Some.first.now c.in-Some.rest.now (λ child. c.in_default-first.not-Child child.winner child.number) (sym c.in-Some.ensures.cases.0 ∙ is.1)),
)
