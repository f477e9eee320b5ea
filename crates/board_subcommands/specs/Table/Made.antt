-- What a farm makes of the boards of a text.
use Rattle.std.specs.Prelude.{ℕ, List, Result, Ok, Err}
use Rattle.std.proofs.Common.{Vec, Global}
use Rattle.cards.specs.Devices.{Device, one_more}
use Rattle.pbn_deals.specs.declared.boards.Board.{Board}
use Rattle.pbn_deals.specs.Reading.{TextAnswers}
use Rattle.streams.specs.Inputs.{IsReadToEnd, Loses}
use Rattle.lease_book.specs.declared.events.Event.{Event}
use Rattle.lease_book.specs.Histories.{Terms}
use Rattle.lease_book.specs.Books.{Ledger}
use Rattle.lease_book.specs.Moments.{MayTell}
use Rattle.certificate_graph.specs.Solvers.{MayFind}
use Rattle.farm.specs.declared.unclaimed.Unclaimed.{Unclaimed}
use Rattle.farm.specs.Runs.{IsRun, IsBookOf, terms_for}
use Rattle.farm.specs.Searched.{AreSearched}
use Rattle.farm.specs.declared.settings.Settings.{Settings}
use Rattle.tournaments.specs.declared.faults.MakeFault.{MakeFault}
use Rattle.tournaments.specs.declared.faults.MakeFault.TheVariants.{OutOfMemory, Read, Pbn, NoThread, Write}
use Rattle.tournaments.specs.Making.{RunFact, HasBoards, MakesPage}
use Rattle.tournaments.specs.Putting.{page_fact}
use Rattle.tables.specs.declared.results.Report.{Report}
use Rattle.streams.specs.RunStreams.{Devices}
use Rattle.board_subcommands.specs.declared.table.options.TableOptions.{TableOptions}

-- the source was read to its end, and this is the book of a run over the boards that its text says
pub record IsBookOfText (may_find : MayFind) (may_tell : MayTell) (settings : Settings) (source source' : Device)
    (text : List ℕ) (book : Ledger) (unclaimed : Unclaimed)
    : Type 0 where
  pub all : IsReadToEnd source source' text
  pub boards : List Board
  pub read : TextAnswers text (Ok boards)
  pub run : IsBookOf may_tell (terms_for boards settings) book
  pub searched : AreSearched may_find settings.budget unclaimed book.terms book.events

-- Such a book, or why there is none. Where the source failed or memory ran out, the bytes that were read are the first
-- of the source.
abbrev pub MakesBook :
    MayFind → MayTell → Settings → Device → Device → Result (Vec ℕ Global × Ledger × Unclaimed) MakeFault → Type 0
MakesBook may_find may_tell settings source source' (Ok (text, book, unclaimed)) =
    IsBookOfText may_find may_tell settings source source' text.items book unclaimed
MakesBook may_find may_tell settings source source' (Err OutOfMemory) = Loses source source' source.failed
MakesBook may_find may_tell settings source source' (Err Read) = Loses source source' (one_more source.failed)
MakesBook may_find may_tell settings source source' (Err (Pbn fault)) =
    (text : List ℕ) × IsReadToEnd source source' text × TextAnswers text (Err fault)
MakesBook may_find may_tell settings source source' (Err NoThread) =
    (boards : List Board) × HasBoards source source' boards
MakesBook may_find may_tell settings source source' (Err Write) = ⊥

-- a run in which the solver was asked for the leases
pub record IsSearchedRun (may_find : MayFind) (may_tell : MayTell) (budget : ℕ) (unclaimed : Unclaimed) (terms : Terms)
    (events : List Event)
    : Type 0 where
  pub run : IsRun may_tell terms events
  pub searched : AreSearched may_find budget unclaimed terms events

-- such a run, however many leases got no claim
abbrev pub IsSomeRun : MayFind → MayTell → ℕ → RunFact
IsSomeRun may_find may_tell budget terms events =
    (unclaimed : Unclaimed) × IsSearchedRun may_find may_tell budget unclaimed terms events

-- the page of such a run
abbrev pub MakesPageOf : RunFact → TableOptions → Devices → Devices → Result (Report × Ledger) MakeFault → Type 0
MakesPageOf is_run options old new made =
    MakesPage is_run (page_fact options.page) options.settings.term options.settings.tries old new made

-- the page, with the book and how many leases got no claim, or why there is none
abbrev pub MakesTables :
    MayFind → MayTell → TableOptions → Devices → Devices → Result (Report × Ledger × Unclaimed) MakeFault → Type 0
MakesTables may_find may_tell options old new (Ok (report, book, unclaimed)) =
    MakesPageOf (IsSearchedRun may_find may_tell options.settings.budget unclaimed) options old new (Ok (report, book))
MakesTables may_find may_tell options old new (Err fault) =
    MakesPageOf (IsSomeRun may_find may_tell options.settings.budget) options old new (Err fault)
