-- The page that is made of a tournament's text.
use Rattle.std.specs.Prelude.{◌≡◌, ℕ, List, [], length, Result, Ok, Err}
use Rattle.cards.specs.Devices.{Device, Adds, AddsBeginning, one_more}
use Rattle.pbn_deals.specs.declared.boards.Board.{Board}
use Rattle.pbn_deals.specs.Reading.{TextAnswers}
use Rattle.streams.specs.Inputs.{IsReadToEnd, Loses}
use Rattle.streams.specs.RunStreams.{Devices}
use Rattle.lease_book.specs.declared.events.Event.{Event}
use Rattle.lease_book.specs.Books.{Ledger}
use Rattle.lease_book.specs.Histories.{Terms}
use Rattle.tables.specs.declared.results.Report.{Report}
use Rattle.tournaments.specs.BookResults.{book_results}
use Rattle.tables.specs.TablesText.{printed_with, complete_count}
use Rattle.tournaments.specs.declared.faults.MakeFault.{MakeFault}
use Rattle.tournaments.specs.declared.faults.MakeFault.TheVariants.{OutOfMemory, Read, Pbn, NoThread, Write}

-- a fact about the history of a run, over the terms of its book
abbrev pub RunFact : Type 1
RunFact = Terms → List Event → Type 0

-- a fact about a page, from the text that was read, its boards, the history and the page
abbrev pub PageFact : Type 1
PageFact = List ℕ → List Board → List Event → List ℕ → Type 0

-- the source was read to its end, and these are the boards of its text
pub record HasBoards (old new : Device) (boards : List Board) : Type 0 where
  pub text : List ℕ
  pub all : IsReadToEnd old new text
  pub read : TextAnswers text (Ok boards)

-- the report counts the boards, and the boards with all twenty numbers published
pub record AreReported (boards : List Board) (events : List Event) (report : Report) : Type 0 where
  pub boards_are : report.boards ≡ length boards
  pub complete_are : report.complete ≡ complete_count boards (printed_with [] (book_results boards events))

-- The source was read to its end. The book is over the boards of its text, with this term and these tries, after such a
-- run. The sink has got such a page, with the numbers that the book's history publishes.
pub record FillsPage (is_run : RunFact) (is_page : PageFact) (term tries : ℕ) (old new : Devices) (report : Report)
    (book : Ledger)
    : Type 0 where
  pub boards : List Board
  pub read : HasBoards old.source new.source boards
  pub terms : book.terms ≡ record { boards = boards; term = term; tries = tries }
  pub run : is_run book.terms book.events
  pub page : List ℕ
  pub is : is_page read.text boards book.events page
  pub written : Adds old.sink new.sink page
  pub counts : AreReported boards book.events report

-- after such a run a beginning of the page was written, and then the sink failed
pub record BeginsPage (is_run : RunFact) (is_page : PageFact) (term tries : ℕ) (old new : Devices) : Type 0 where
  pub boards : List Board
  pub read : HasBoards old.source new.source boards
  pub events : List Event
  pub run : is_run (record { boards = boards; term = term; tries = tries }) events
  pub page : List ℕ
  pub is : is_page read.text boards events page
  pub written : AddsBeginning old.sink new.sink page

-- The answer, the bytes read from the source and the bytes in the sink. If the source failed or memory ran out, the
-- bytes that were read are the first of the source. After a fault something was written only if the sink failed.
abbrev pub MakesPage : RunFact → PageFact → ℕ → ℕ → Devices → Devices → Result (Report × Ledger) MakeFault → Type 0
MakesPage is_run is_page term tries old new (Ok (report, book)) =
    FillsPage is_run is_page term tries old new report book
MakesPage is_run is_page term tries old new (Err OutOfMemory) =
    Loses old.source new.source old.source.failed × (new.sink ≡ old.sink)
MakesPage is_run is_page term tries old new (Err Read) =
    Loses old.source new.source (one_more old.source.failed) × (new.sink ≡ old.sink)
MakesPage is_run is_page term tries old new (Err (Pbn fault)) =
    (text : List ℕ) × IsReadToEnd old.source new.source text × TextAnswers text (Err fault) × (new.sink ≡ old.sink)
MakesPage is_run is_page term tries old new (Err NoThread) =
    (boards : List Board) × HasBoards old.source new.source boards × (new.sink ≡ old.sink)
MakesPage is_run is_page term tries old new (Err Write) =
    BeginsPage is_run is_page term tries old new
