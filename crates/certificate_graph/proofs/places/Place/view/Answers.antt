use Rattle.std.proofs.Common.{◌∷◌, sym, ◌∙◌, ap}
use Rattle.certificate_graph.specs.declared.rows.Token.TheVariants as token
use Rattle.certificate_graph.specs.Trees.{Own, Reply, Leaf}
use Rattle.certificate_graph.specs.OneTree.{same_tree}
use Rattle.certificate_graph.proofs.RowLemmas.{own_first, reply_first, child_first, no_branch_first, begun}
use Rattle.certificate_graph.proofs.places.Place.view.Goals as goal

pub returns-in_default : goal.returns-in_default
returns-in_default c = same_tree (Leaf c.of_row.result) c.args.self.now (c.of_row.ensures ∙ c.row-row.ensures)

pub of_row-requires-in-Own : goal.of_row-requires-in-Own
of_row-requires-in-Own c =
    own_first c.args.self.now c.in-Own.card c.in-Some.rest.now
    (begun c.row-row.result.now c.in-Some.rest.now c.in-Some.first.now (token.Own c.in-Own.card) c.in-Some.ensures.cases.0 c.in-Own.is ∙ c.row-row.ensures)

pub of_row-requires-in-Reply : goal.of_row-requires-in-Reply
of_row-requires-in-Reply c =
    reply_first c.args.self.now c.in-Some.rest.now
    (begun c.row-row.result.now c.in-Some.rest.now c.in-Some.first.now token.Reply c.in-Some.ensures.cases.0 c.in-Reply.is ∙ c.row-row.ensures)

pub returns-in-Own : goal.returns-in-Own
returns-in-Own c =
    same_tree (Own c.in-Own.card c.of_row-in-Own.result) c.args.self.now
    (ap (λ l. token.Own c.in-Own.card ∷ l) c.of_row-in-Own.ensures
    ∙ begun c.row-row.result.now c.in-Some.rest.now c.in-Some.first.now (token.Own c.in-Own.card) c.in-Some.ensures.cases.0 c.in-Own.is ∙ c.row-row.ensures)

pub returns-in-Reply : goal.returns-in-Reply
returns-in-Reply c =
    same_tree (Reply c.of_row-in-Reply.result) c.args.self.now
    (ap (λ l. token.Reply ∷ l) c.of_row-in-Reply.ensures
    ∙ begun c.row-row.result.now c.in-Some.rest.now c.in-Some.first.now token.Reply c.in-Some.ensures.cases.0 c.in-Reply.is ∙ c.row-row.ensures)

pub returns-in-Child : goal.returns-in-Child
returns-in-Child c = same_tree (Leaf c.of_row-in-Child.result) c.args.self.now (c.of_row-in-Child.ensures ∙ c.row-row.ensures)

pub of_row-requires-in-Child : goal.of_row-requires-in-Child
of_row-requires-in-Child c =
    let first = begun c.row-row.result.now c.in-Some.rest.now c.in-Some.first.now _ c.in-Some.ensures.cases.0 c.in-Child.is in
    let found = child_first c.args.self.now _ c.in-Some.rest.now (first ∙ c.row-row.ensures) in
    (found.0, sym first ∙ found.1)

pub unreachable-requires : goal.unreachable-requires
unreachable-requires c =
    no_branch_first c.args.self.now _ _ c.in-Some.rest.now
    (begun c.row-row.result.now c.in-Some.rest.now c.in-Some.first.now _ c.in-Some.ensures.cases.0 c.in-Branch.is ∙ c.row-row.ensures)
