-- What a solver is asked for a trick, and what comes of its answer.
use Rattle.std.specs.Prelude.{◌≡◌, ℕ, Option, None, Some, Result, Ok, Err, ⊤}
use Rattle.cards.specs.declared.faults.OutOfMemory.{OutOfMemory}
use Rattle.certificate_graph.specs.declared.card_claims.CardBundle.{CardBundle}
use Rattle.certificate_graph.specs.Solvers.{MayFindCards}
use Rattle.play_rules.specs.Position.{Position}
use Rattle.card_values.specs.declared.claims.CardGraphs.{CardGraphs}
use Rattle.card_values.specs.CardValues.{ShownValues}
use Rattle.certified_cards.specs.Bundles.{AreGraphsOf}
use Rattle.certified_cards.specs.Searches.{MayAnswer, RunsOut}
use Rattle.best_cards.specs.declared.faults.BestFault.{BestFault}
use Rattle.best_cards.specs.declared.searching.BestFound.{BestFound}
use Rattle.best_cards.specs.BestCards.{AreBestCards}
use Rattle.best_cards.specs.Judging.{AreShownBest, IsBestFault}

-- the bundle shows that these cards lead to the most tricks
pub record ShowsBest (bundle : CardBundle) (position : Position) (shown : ShownValues) : Type 0 where
  pub position_is : shown.position ≡ position
  pub graphs : CardGraphs
  pub graphs_are : AreGraphsOf bundle graphs
  pub claimed : AreShownBest position graphs bundle.claims.items shown.values
  pub are : AreBestCards position shown.values

-- the bundle shows it of no card, for this reason
pub record LacksBest (bundle : CardBundle) (position : Position) (why : BestFault) : Type 0 where
  pub graphs : CardGraphs
  pub graphs_are : AreGraphsOf bundle graphs
  pub fault : IsBestFault position graphs bundle.claims.items why

-- what the bundle shows
abbrev pub AreJudged : Position → CardBundle → Result (Result ShownValues BestFault) OutOfMemory → Type 0
AreJudged position bundle (Ok (Ok shown)) = ShowsBest bundle position shown
AreJudged position bundle (Ok (Err why)) = LacksBest bundle position why
AreJudged position bundle (Err fault) = ⊤

-- the solver's answer shows it of these cards
pub record AreFound (may_find : MayFindCards) (position : Position) (budget : ℕ) (found : BestFound) : Type 0 where
  pub answer : MayAnswer may_find position budget (Some found.bundle)
  pub shown : ShowsBest found.bundle position found.cards

-- the answer shows it of no card
abbrev pub IsNoAnswer : Option CardBundle → Position → Type 0
IsNoAnswer None position = ⊤
IsNoAnswer (Some bundle) position = (why : BestFault) × LacksBest bundle position why

-- the solver's answer shows it of no card
abbrev pub FindsNone : MayFindCards → Position → ℕ → Type 0
FindsNone may_find position budget =
    (answer : Option CardBundle) × MayAnswer may_find position budget answer × IsNoAnswer answer position

-- the cards that were found, or why there are none
abbrev pub FindsBest : MayFindCards → Position → ℕ → Result (Option BestFound) OutOfMemory → Type 0
FindsBest may_find position budget (Ok (Some found)) = AreFound may_find position budget found
FindsBest may_find position budget (Ok None) = FindsNone may_find position budget
FindsBest may_find position budget (Err fault) = RunsOut may_find position budget
