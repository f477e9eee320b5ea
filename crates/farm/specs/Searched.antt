-- That the solver was asked for the leases of a run.
use Rattle.std.specs.Prelude.{◌≡◌, ℕ, ◌+◌, ◌≤◌, List, ◌++◌, All, Contains, Option, map, sum_by}
use Rattle.cards.specs.Deal.{Deal}
use Rattle.pbn_deals.specs.declared.boards.Board.{Board}
use Rattle.certificate_graph.specs.Solvers.{MayFind}
use Rattle.lease_book.specs.declared.events.Asked.TheVariants.{Lease}
use Rattle.lease_book.specs.declared.events.Reply.TheVariants.{Given}
use Rattle.lease_book.specs.declared.events.Event.{Event}
use Rattle.lease_book.specs.Histories.{Terms}
use Rattle.lease_book.specs.Books.{Ledger}
use Rattle.lease_book.specs.Settling.{given_in}
use Rattle.farm.specs.declared.unclaimed.Unclaimed.{Unclaimed}
use Rattle.farm.specs.declared.tasks.Task.{Task}
use Rattle.farm.specs.Leases.{all_given_up, all_handed_in, one_each}
use Rattle.farm.specs.Asks.{Ask, IsAsked, all_answered, all_vain, all_steps}

-- these events give this lease for this entry
abbrev pub IsLeased : List Event → Task → Type 0
IsLeased events task =
    (now : ℕ) × (deadline : ℕ)
    × Contains events (record { asked = Lease now; reply = Given task.lease task.entry deadline })

-- What came of the leases of these events. The solver was called for leases that were given, and the farm took leases
-- back that nobody had settled. Each lease that was given up was taken back, or a call for it was in vain. Each lease
-- under which something was handed in is of a call whose answer has a claim for it. Those in vain and those handed in
-- under are all different, and were given.
pub record AreAskedFor (is_asked : Ask → Type 0) (events : List Event) (steps : ℕ) : Type 0 where
  pub asks : List Ask
  pub asked : All is_asked asks
  pub leased : All (λ ask. All (IsLeased events) ask.tasks) asks
  pub back : List ℕ
  pub given_up : (weight : ℕ → ℕ) → all_given_up weight events ≡ all_vain weight asks + sum_by weight back
  pub handed_in : (weight : ℕ → ℕ) → all_handed_in weight events ≤ all_answered weight asks
  pub settled : (weight : ℕ → ℕ) → all_vain weight asks + all_handed_in weight events ≤ given_in weight events
  pub steps_are : steps ≡ all_steps asks

-- the deals of boards, by their numbers
abbrev pub deals_in : List Board → List (Option Deal)
deals_in boards = map (λ board. board.deal) boards

-- What came of the leases that a farm gave in these events. The solver was asked for them on the deals of the boards,
-- within this budget. Each lease without a claim is counted: it ran out of steps, or it is one of the others.
pub record AreSearched (may_find : MayFind) (budget : ℕ) (unclaimed : Unclaimed) (terms : Terms) (events : List Event)
    : Type 0 where
  pub asked : AreAskedFor (IsAsked may_find (deals_in terms.boards) budget) events unclaimed.steps
  pub all : unclaimed.steps + unclaimed.memory + all_handed_in one_each events ≡ given_in one_each events

-- the same of the events since then
pub record AreSearchedSince (may_find : MayFind) (budget : ℕ) (old new : Ledger) (unclaimed : Unclaimed) : Type 0 where
  pub later : List Event
  pub events_are : new.events ≡ old.events ++ later
  pub searched : AreSearched may_find budget unclaimed new.terms later
