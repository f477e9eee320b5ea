-- The effect of the work on entries on a book, and a run in which all of them are worked on.
use Rattle.std.specs.Prelude.{◌≡◌, ℕ, List, Option, Result}
use Rattle.checker.specs.declared.entries.Shown.{Shown}
use Rattle.checker.specs.declared.hand_faults.HandFault.{HandFault}
use Rattle.lease_book.specs.declared.entries.Entry.{Entry}
use Rattle.lease_book.specs.declared.events.Reply.{Reply}
use Rattle.lease_book.specs.declared.events.Event.{Event}
use Rattle.lease_book.specs.Books.{Ledger, IsAnswered}
use Rattle.lease_book.specs.Histories.{Terms, deal_of}
use Rattle.certificate_graph.specs.Solvers.{MayFind}
use Rattle.plain_runs.specs.Asking.{IsFoundFor, asked_for, AreWorkedOn}
use Rattle.lease_book.specs.Moments.{MayTell, AreTimed}
use Rattle.lease_book.specs.TrueHistories.{IsTrueHistory, IsGivenOut}
use Rattle.lease_book.specs.Done.{IsDone}

-- the verdict on the solver's answer for the entry was handed in under the lease, or the lease was given up
pub record WorksOn (may_find : MayFind) (budget : ℕ) (old new : Ledger) (lease : ℕ) (entry : Entry) : Type 0 where
  pub verdict : Option (Result Shown HandFault)
  pub found : IsFoundFor may_find budget (deal_of old.terms.boards entry.board) entry verdict
  pub reply : Reply
  pub answered : IsAnswered old new (asked_for lease entry verdict) reply

-- The terms are the same, all entries were given out and each is done, each lease was worked on, and the clock told the
-- moments.
pub record GivesOut (may_find : MayFind) (may_tell : MayTell) (budget : ℕ) (old new : Ledger) : Type 0 where
  pub terms : new.terms ≡ old.terms
  pub given_out : IsGivenOut new.events
  pub done : IsDone new.terms new.events
  pub worked_on : AreWorkedOn may_find budget new.terms.boards new.events
  pub timed : AreTimed may_tell new.events

-- A whole run over the boards: a true history in which all entries were given out, until each was done. The solver's
-- answer for each lease was handed in, and the clock told the moments.
pub record IsWholeRun (may_find : MayFind) (may_tell : MayTell) (budget : ℕ) (terms : Terms) (events : List Event)
    : Type 0 where
  pub history : IsTrueHistory terms events
  pub given_out : IsGivenOut events
  pub done : IsDone terms events
  pub worked_on : AreWorkedOn may_find budget terms.boards events
  pub timed : AreTimed may_tell events
