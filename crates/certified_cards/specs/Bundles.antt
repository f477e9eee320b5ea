-- What a solver's claims for a trick show.
use Rattle.std.specs.Prelude.{◌≡◌, All, Result, Ok, Err, ⊤}
use Rattle.cards.specs.declared.faults.OutOfMemory.{OutOfMemory}
use Rattle.certificate_graph.specs.declared.card_claims.CardBundle.{CardBundle}
use Rattle.play_rules.specs.Position.{Position}
use Rattle.card_values.specs.declared.claims.CardGraphs.{CardGraphs}
use Rattle.card_values.specs.declared.faults.CardFault.{CardFault}
use Rattle.card_values.specs.CardValues.{ShownValues, AreCardValues}
use Rattle.card_values.specs.Judging.{IsClaimed, IsCardFault}

-- the graphs of a bundle
pub record AreGraphsOf (bundle : CardBundle) (graphs : CardGraphs) : Type 0 where
  pub ns : graphs.ns.now ≡ bundle.ns.value
  pub ew : graphs.ew.now ≡ bundle.ew.value

-- the bundle shows these values of the cards that may be played to this trick
pub record ShowsValues (bundle : CardBundle) (position : Position) (shown : ShownValues) : Type 0 where
  pub position_is : shown.position ≡ position
  pub graphs : CardGraphs
  pub graphs_are : AreGraphsOf bundle graphs
  pub claimed : All (IsClaimed position graphs bundle.claims.items) shown.values
  pub are : AreCardValues position shown.values

-- the bundle doesn't show them, for this reason
pub record LacksValues (bundle : CardBundle) (position : Position) (why : CardFault) : Type 0 where
  pub graphs : CardGraphs
  pub graphs_are : AreGraphsOf bundle graphs
  pub fault : IsCardFault position graphs bundle.claims.items why

abbrev pub AreJudged : Position → CardBundle → Result (Result ShownValues CardFault) OutOfMemory → Type 0
AreJudged position bundle (Ok (Ok shown)) = ShowsValues bundle position shown
AreJudged position bundle (Ok (Err why)) = LacksValues bundle position why
AreJudged position bundle (Err fault) = ⊤
