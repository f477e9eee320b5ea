use Rattle.std.proofs.Common.{sym, ◌∙◌, ap, subst}
use Rattle.std.specs.Option.{option_copied}
use Rattle.certificate_graph.specs.Graphs.{IsGraph}
use Rattle.card_values.proofs.ClaimLaws.{value_of_claim}
use Rattle.card_values.proofs.judging.check_card.Goals as goal

pub returns-in-Ok : goal.returns-in-Ok
returns-in-Ok c =
    value_of_claim c.args.trick.now c.args.graphs.now c.args.claims.now c.args.card c.in-Some.claim.now (subst IsGraph c.graph.ensures c.invariant.ensures) (subst IsGraph c.graph-2.ensures c.invariant-2.ensures) c.invariant-3.ensures c.requires
    (sym c.claim_for.ensures ∙ ap option_copied c.in-Some.is) c.in-Ok.ensures
