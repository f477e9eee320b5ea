-- What a bundle shows of the cards that may be played.
use Rattle.std.proofs.Common.{◌≡◌, List, subst}
use Rattle.certificate_graph.specs.declared.card_claims.CardBundle.{CardBundle}
use Rattle.certificate_graph.specs.declared.card_claims.CardClaim.{CardClaim}
use Rattle.play_rules.specs.Position.{Position}
use Rattle.card_values.specs.declared.claims.CardGraphs.{CardGraphs}
use Rattle.card_values.specs.CardValues.{ShownValues}
use Rattle.certified_cards.specs.Bundles.{AreGraphsOf}
use Rattle.best_cards.specs.declared.faults.BestFault.{BestFault}
use Rattle.best_cards.specs.BestCards.{AreBestCards}
use Rattle.best_cards.specs.Judging.{AreShownBest, IsBestFault}
use Rattle.best_cards.specs.Searches.{ShowsBest, LacksBest}

pub shows_best : (bundle : CardBundle) (position : Position) (shown : ShownValues) (graphs : CardGraphs) (claims : List CardClaim) → claims ≡ bundle.claims.items → AreGraphsOf bundle graphs
    → (shown.position ≡ position) × AreShownBest position graphs claims shown.values
    → AreBestCards shown.position shown.values
    → ShowsBest bundle position shown
shows_best bundle position shown graphs claims same graphs_are judged are = record {
  position_is = judged.0;
  graphs = graphs;
  graphs_are = graphs_are;
  claimed = subst (λ (those : List CardClaim). AreShownBest position graphs those shown.values) same judged.1;
  are = subst (λ (p : Position). AreBestCards p shown.values) judged.0 are;
}

pub lacks_best : (bundle : CardBundle) (position : Position) (why : BestFault) (graphs : CardGraphs) (claims : List CardClaim) → claims ≡ bundle.claims.items → AreGraphsOf bundle graphs
    → IsBestFault position graphs claims why
    → LacksBest bundle position why
lacks_best bundle position why graphs claims same graphs_are fault = record {
  graphs = graphs;
  graphs_are = graphs_are;
  fault = subst (λ (those : List CardClaim). IsBestFault position graphs those why) same fault;
}
