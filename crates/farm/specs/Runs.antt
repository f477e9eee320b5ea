-- A run of a farm.
use Rattle.std.specs.Prelude.{◌≡◌, List}
use Rattle.pbn_deals.specs.declared.boards.Board.{Board}
use Rattle.lease_book.specs.declared.events.Event.{Event}
use Rattle.lease_book.specs.Histories.{Terms}
use Rattle.lease_book.specs.Books.{Ledger}
use Rattle.farm.specs.declared.settings.Settings.{Settings}
use Rattle.lease_book.specs.Moments.{MayTell, AreTimed}
use Rattle.lease_book.specs.TrueHistories.{IsTrueHistory, IsGivenOut}
use Rattle.lease_book.specs.Done.{IsDone}
use Rattle.lease_book.specs.Settling.{AreSettledOnce}

-- A run over these terms: the history is true, and all entries were given out until each was done. So no lease is held,
-- and each entry whose board has a deal has a number, or was leased as often as it may be. No lease was settled twice,
-- and the clock told the moments.
pub record IsRun (may_tell : MayTell) (terms : Terms) (events : List Event) : Type 0 where
  pub history : IsTrueHistory terms events
  pub given_out : IsGivenOut events
  pub done : IsDone terms events
  pub settled : AreSettledOnce events
  pub timed : AreTimed may_tell events

-- a book over these terms, after such a run
pub record IsBookOf (may_tell : MayTell) (terms : Terms) (book : Ledger) : Type 0 where
  pub terms_are : book.terms ≡ terms
  pub run : IsRun may_tell terms book.events

-- boards with the term and the tries of settings
abbrev pub terms_for : List Board → Settings → Terms
terms_for boards settings = record { boards = boards; term = settings.term; tries = settings.tries }
