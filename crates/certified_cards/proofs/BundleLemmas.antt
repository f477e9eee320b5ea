-- What a bundle shows of the cards that may be played.
use Rattle.std.proofs.Common.{◌≡◌, ◌∙◌, List, All, subst}
use Rattle.certificate_graph.specs.declared.card_claims.CardBundle.{CardBundle}
use Rattle.certificate_graph.specs.declared.card_claims.CardClaim.{CardClaim}
use Rattle.play_rules.specs.Position.{Position}
use Rattle.card_values.specs.declared.claims.CardGraphs.{CardGraphs}
use Rattle.card_values.specs.CardValues.{ShownValues, AreCardValues}
use Rattle.card_values.specs.declared.faults.CardFault.{CardFault}
use Rattle.card_values.specs.Judging.{IsClaimed, IsCardFault}
use Rattle.certified_cards.specs.Bundles.{AreGraphsOf, ShowsValues, LacksValues}

pub shows_values : (bundle : CardBundle) (position : Position) (shown : ShownValues) (graphs : CardGraphs)
    (claims : List CardClaim) → claims ≡ bundle.claims.items → AreGraphsOf bundle graphs
    → (shown.position ≡ position) × All (IsClaimed position graphs claims) shown.values
    → AreCardValues shown.position shown.values
    → ShowsValues bundle position shown
shows_values bundle position shown graphs claims same graphs_are judged are = record {
  position_is = judged.0;
  graphs = graphs;
  graphs_are = graphs_are;
  claimed = subst (λ (those : List CardClaim). All (IsClaimed position graphs those) shown.values) same judged.1;
  are = subst (λ p. AreCardValues p shown.values) judged.0 are;
}

pub lacks_values : (bundle : CardBundle) (position : Position) (why : CardFault) (graphs : CardGraphs)
    (claims : List CardClaim) → claims ≡ bundle.claims.items → AreGraphsOf bundle graphs
    → IsCardFault position graphs claims why
    → LacksValues bundle position why
lacks_values bundle position why graphs claims same graphs_are fault = record {
  graphs = graphs;
  graphs_are = graphs_are;
  fault = subst (λ (those : List CardClaim). IsCardFault position graphs those why) same fault;
}

-- a bundle shows what another one of the same graphs and claims shows
pub shown_by_same : (bundle other : CardBundle) (position place : Position) (shown : ShownValues)
    → other.ns.value ≡ bundle.ns.value → other.ew.value ≡ bundle.ew.value → other.claims.items ≡ bundle.claims.items
    → place ≡ position
    → ShowsValues other place shown
    → ShowsValues bundle position shown
shown_by_same bundle other position place shown ns ew claims same shows = record {
  position_is = shows.position_is ∙ same;
  graphs = shows.graphs;
  graphs_are = record { ns = shows.graphs_are.ns ∙ ns; ew = shows.graphs_are.ew ∙ ew };
  claimed = subst (λ (those : List CardClaim). All (IsClaimed position shows.graphs those) shown.values) claims
      (subst (λ (p : Position). All (IsClaimed p shows.graphs other.claims.items) shown.values) same shows.claimed);
  are = subst (λ (p : Position). AreCardValues p shown.values) same shows.are;
}
