-- The events that a run adds to the history of a book.
use Rattle.std.specs.Prelude.{◌≡◌, ℕ, List, ◌++◌, All}
use Rattle.lease_book.specs.declared.events.Asked.TheVariants.{GiveUp}
use Rattle.lease_book.specs.declared.events.Event.{Event}
use Rattle.lease_book.specs.Books.{Ledger}
use Rattle.lease_book.specs.Done.{IsDone}
use Rattle.lease_book.specs.TrueHistories.{IsTrueHistory, IsGivenOut}
use Rattle.lease_book.specs.Moments.{MayTell, AreTimed}
use Rattle.lease_book.specs.Settling.{AreSettledOnce}
use Rattle.farm.specs.Asks.{Ask, as_counted}
use Rattle.farm.specs.Searched.{AreAskedFor}

-- a lease was given up
abbrev pub IsGiveUp : Event → Type 0
IsGiveUp event = (lease : ℕ) × (event.asked ≡ GiveUp lease)

-- leases were given up, each of which nobody had settled
pub record TakesBack (old new : Ledger) : Type 0 where
  pub terms_are : new.terms ≡ old.terms
  pub later : List Event
  pub events_are : new.events ≡ old.events ++ later
  pub given_up : All IsGiveUp later
  pub settled : AreSettledOnce old.events → AreSettledOnce new.events

-- Threads worked at the book until the desk answered that no entry is open. The clock told the moments, no lease was
-- settled twice, and the solver was asked. The leases that ran out of steps were counted, up to the most that the count
-- can be.
pub record IsRound (may_tell : MayTell) (is_asked : Ask → Type 0) (old new : Ledger) (steps : ℕ) : Type 0 where
  pub terms_are : new.terms ≡ old.terms
  pub later : List Event
  pub events_are : new.events ≡ old.events ++ later
  pub given_out : IsGivenOut later
  pub timed : AreTimed may_tell later
  pub settled : AreSettledOnce later
  pub all : ℕ
  pub asked : AreAskedFor is_asked later all
  pub counted : steps ≡ as_counted all

-- The history goes on, at moments that the clock told. If no lease was settled twice before, none is.
pub record GoesOn (may_tell : MayTell) (old new : Ledger) : Type 0 where
  pub terms_are : new.terms ≡ old.terms
  pub later : List Event
  pub events_are : new.events ≡ old.events ++ later
  pub timed : AreTimed may_tell later
  pub settled : AreSettledOnce old.events → AreSettledOnce new.events

-- The history goes on by rounds, in which the solver was asked, and leases were taken back after each.
pub record GoesRound (may_tell : MayTell) (is_asked : Ask → Type 0) (old new : Ledger) (steps : ℕ) : Type 0 where
  pub on : GoesOn may_tell old new
  pub all : ℕ
  pub asked : AreAskedFor is_asked on.later all
  pub counted : steps ≡ as_counted all

-- The history goes on by rounds until each entry is done.
pub record EndsRounds (may_tell : MayTell) (is_asked : Ask → Type 0) (old new : Ledger) (steps : ℕ) : Type 0 where
  pub round : GoesRound may_tell is_asked old new steps
  pub history : IsTrueHistory new.terms new.events
  pub given_out : IsGivenOut new.events
  pub done : IsDone new.terms new.events

-- The history goes on until each entry is done. It is true, and one request was answered that no entry is open.
pub record Finishes (may_tell : MayTell) (old new : Ledger) : Type 0 where
  pub on : GoesOn may_tell old new
  pub history : IsTrueHistory new.terms new.events
  pub given_out : IsGivenOut new.events
  pub done : IsDone new.terms new.events
