use Rattle.std.proofs.Common.{◌∷◌, sym, ◌∙◌, ap}
use Rattle.certificate_graph.specs.OneTree.{same_children}
use Rattle.certificate_graph.proofs.RowLemmas.{begun, next_child, no_child_first}
use Rattle.certificate_graph.proofs.places.Children.split_first.Goals as goal

pub unreachable-requires : goal.unreachable-requires
unreachable-requires c =
    no_child_first c.args.self.now c.in-Some.first.now c.in-Some.rest.now (λ child. c.in_default-first.not-Child child.winner child.number) (sym c.in-Some.ensures.cases.0 ∙ c.row-row.ensures)

pub of_row-requires : goal.of_row-requires
of_row-requires c =
    let found = next_child c.args.self.now (record { winner = c.in-Child.winner; number = c.in-Child.number }) c.in-Some.rest.now
    (begun c.row-row.result.now c.in-Some.rest.now c.in-Some.first.now _ c.in-Some.ensures.cases.0 c.in-Child.is ∙ c.row-row.ensures) in
    (found.0, sym found.2)

pub returns : goal.returns
returns c =
    let found = next_child c.args.self.now (record { winner = c.in-Child.winner; number = c.in-Child.number }) c.in-Some.rest.now
    (begun c.row-row.result.now c.in-Some.rest.now c.in-Some.first.now _ c.in-Some.ensures.cases.0 c.in-Child.is ∙ c.row-row.ensures) in
    sym found.1 ∙ ap (λ l. record { winner = c.in-Child.winner; number = c.in-Child.number } ∷ l) (same_children found.0 c.of_row.result (found.2 ∙ sym c.of_row.ensures))
