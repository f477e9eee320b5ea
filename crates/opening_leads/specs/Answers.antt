-- The leads that a solver's answer shows.
use Rattle.std.specs.Prelude.{◌≡◌, ℕ, List, [], ◌∷◌, All, Option, None, Some, IfSome, Result, Ok, Err, IfOk}
use Rattle.std.specs.Option.{option_flatten}
use Rattle.std.specs.Result.{result_ok}
use Rattle.std.specs.declared.alloc.AllocError.{AllocError}
use Rattle.cards.specs.declared.seats.Seat.{Seat}
use Rattle.cards.specs.declared.seats.Seat.TheVariants.{North, East, South, West}
use Rattle.cards.specs.declared.suits.Trump.{Trump}
use Rattle.cards.specs.Deal.{Deal}
use Rattle.play_rules.specs.Position.{Position}
use Rattle.certificate_graph.specs.declared.card_claims.CardBundle.{CardBundle}
use Rattle.certificate_graph.specs.Solvers.{MayFindCards}
use Rattle.pbn_deals.specs.declared.boards.Board.{Board}
use Rattle.card_values.specs.declared.claims.CardGraphs.{CardGraphs}
use Rattle.card_values.specs.declared.faults.CardFault.{CardFault}
use Rattle.card_values.specs.declared.faults.CardFault.TheVariants.{ClaimMissing}
use Rattle.card_values.specs.declared.values.CardValue.{CardValue}
use Rattle.card_values.specs.CardValues.{AreCardValues}
use Rattle.card_values.specs.Judging.{IsClaimed, IsCardFault}
use Rattle.opening_leads.specs.Leads.{LeadRow, Leads, before_lead, deal_at}
use Rattle.opening_leads.specs.declared.rows.Lack.{Lack}
use Rattle.opening_leads.specs.declared.rows.Lack.TheVariants.{Steps, Memory, Refused}

-- these are the graphs of the answer
pub record AreGraphsOf (bundle : CardBundle) (graphs : CardGraphs) : Type 0 where
  pub ns : graphs.ns.now ≡ bundle.ns.value
  pub ew : graphs.ew.now ≡ bundle.ew.value

-- The answer shows the values of the leads: the first claim for each of these cards is shown, and claims its tricks.
pub record ShowsLeads (bundle : CardBundle) (position : Position) (values : List CardValue) : Type 0 where
  pub graphs : CardGraphs
  pub graphs_are : AreGraphsOf bundle graphs
  pub claimed : All (IsClaimed position graphs bundle.claims.items) values

-- why leads are not known if a claim has this fault: there is none for a lead, or it was refused
abbrev pub lack_by : CardFault → Lack
lack_by (ClaimMissing card) = Steps
lack_by _ = Refused

-- The answer does not show them: a lead has no claim, or its first claim has a fault, and this lack says which.
pub record LacksLeads (bundle : CardBundle) (position : Position) (lack : Lack) : Type 0 where
  pub graphs : CardGraphs
  pub graphs_are : AreGraphsOf bundle graphs
  pub fault : CardFault
  pub lack_is : lack ≡ lack_by fault
  pub has : IsCardFault position graphs bundle.claims.items fault

-- what a solver answers: claims, or none, or that memory ran out
abbrev pub Answer : Type 0
Answer = Result (Option CardBundle) AllocError

-- The leads of a contract are known if there is an answer and it shows them. Otherwise the row says why not.
abbrev pub AreLeadsIn : Answer → Position → LeadRow → Type 0
AreLeadsIn (Err why) position leads = leads ≡ Err Memory
AreLeadsIn (Ok None) position leads = leads ≡ Err Steps
AreLeadsIn (Ok (Some bundle)) position (Err lack) = LacksLeads bundle position lack
AreLeadsIn (Ok (Some bundle)) position (Ok values) = ShowsLeads bundle position values

-- The leads of a contract that are known: each legal lead once, with its double-dummy value, whatever the solver
-- answers, if the answer shows them.
pub record AreShownLeads (answer : Answer) (deal : Deal) (declarer : Seat) (trump : Trump) (leads : LeadRow)
    : Type 0 where
  pub values : IfOk leads (AreCardValues (before_lead deal declarer trump))
  pub shown : AreLeadsIn answer (before_lead deal declarer trump) leads

-- the solver is asked for the leads of all seats at once
abbrev pub all_leaders : List Seat
all_leaders = North ∷ East ∷ South ∷ West ∷ []

-- The leads that are known in a denomination, by declarer. They are those that one answer shows, which the solver may
-- find for the deal, all leaders, the denomination and no card played. There may be no answer, also because memory ran
-- out in the call.
pub record AreFoundLeads (may_find : MayFindCards) (budget : ℕ) (deal : Deal) (trump : Trump)
    (leads : Seat → LeadRow)
    : Type 0 where
  pub answer : Answer
  pub may : may_find deal all_leaders trump [] budget (option_flatten (result_ok answer))
  pub each : (declarer : Seat) → AreShownLeads answer deal declarer trump (leads declarer)

-- the leads of a board in all denominations, if it has a deal
abbrev pub AreFoundFor : MayFindCards → ℕ → Option Deal → Leads → Type 0
AreFoundFor may_find budget deal leads =
    IfSome deal (λ deal. (trump : Trump) → AreFoundLeads may_find budget deal trump (λ declarer. leads declarer trump))

-- the leads of all boards, by their places
abbrev pub AreFoundOn : MayFindCards → ℕ → List Board → (ℕ → Leads) → Type 0
AreFoundOn may_find budget boards leads =
    (place : ℕ) → AreFoundFor may_find budget (deal_at boards place) (leads place)
