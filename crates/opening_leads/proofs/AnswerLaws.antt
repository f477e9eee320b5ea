-- The leads of a contract, from the judgement of an answer.
use Rattle.std.proofs.Common.{◌≡◌, List, All, Some, Result, Ok, Err}
use Rattle.std.specs.Prelude.{MatchResult}
use Rattle.cards.specs.declared.seats.Seat.{Seat}
use Rattle.cards.specs.declared.suits.Trump.{Trump}
use Rattle.cards.specs.Deal.{Deal}
use Rattle.certificate_graph.specs.declared.card_claims.CardBundle.{CardBundle}
use Rattle.card_values.specs.declared.claims.CardGraphs.{CardGraphs}
use Rattle.card_values.specs.declared.faults.CardFault.{CardFault}
use Rattle.card_values.specs.declared.values.CardValue.{CardValue}
use Rattle.card_values.specs.CardValues.{AreCardValues}
use Rattle.card_values.specs.Judging.{IsClaimed, IsCardFault}
use Rattle.opening_leads.specs.Leads.{before_lead, with_values}
use Rattle.opening_leads.specs.declared.rows.Lack.{Lack}
use Rattle.opening_leads.specs.Answers.{AreGraphsOf, AreShownLeads, lack_by}

module _ {V : Type 0} (items : V → List CardValue) (bundle : CardBundle) (graphs : CardGraphs) (are : AreGraphsOf bundle graphs)
    (deal : Deal) (declarer : Seat) (trump : Trump) where
  pub shown_row : (row : Result V Lack)
      → MatchResult row
      (λ values. AreCardValues (before_lead deal declarer trump) (items values)
      × All (IsClaimed (before_lead deal declarer trump) graphs bundle.claims.items) (items values))
      (λ lack. (fault : CardFault) × (lack ≡ lack_by fault)
      × IsCardFault (before_lead deal declarer trump) graphs bundle.claims.items fault)
      → AreShownLeads (Ok (Some bundle)) deal declarer trump (with_values items row)
  shown_row (Err lack) judged =
      record {
        values = tt;
        shown = record { graphs = graphs; graphs_are = are; fault = judged.0; lack_is = judged.1; has = judged.2 };
      }
  shown_row (Ok values) judged =
      record { values = judged.0; shown = record { graphs = graphs; graphs_are = are; claimed = judged.1 } }
