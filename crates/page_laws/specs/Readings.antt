-- How each page that is put is read.
use Rattle.std.specs.Prelude.{ℕ, List, [], Result, Ok}
use Rattle.tournaments.specs.declared.pages.Page.{Page}
use Rattle.tournaments.specs.declared.pages.PageForm.{PageForm}
use Rattle.tournaments.specs.declared.pages.PageForm.TheVariants as form
use Rattle.tournaments.specs.declared.pages.ParTags.{ParTags}
use Rattle.tournaments.specs.declared.pages.ParTags.TheVariants.{Without, With}
use Rattle.cards.specs.Devices.{Device}
use Rattle.pbn_deals.specs.Reading.{TextAnswers}
use Rattle.streams.specs.RunStreams.{Devices}
use Rattle.lease_book.specs.Books.{Ledger}
use Rattle.tournaments.specs.BookResults.{book_results}
use Rattle.lease_book.specs.TrueHistories.{IsTrueHistory}
use Rattle.tables.specs.declared.results.Report.{Report}
use Rattle.tables.specs.declared.results.Renews.{Renews}
use Rattle.tables.specs.declared.results.Renews.TheVariants.{Tables, TablesAndPars}
use Rattle.tournaments.specs.declared.faults.MakeFault.{MakeFault}
use Rattle.tournaments.specs.Making.{PageFact, MakesPage}
use Rattle.tournaments.specs.Pages.{Pars}
use Rattle.tournaments.specs.Pars.{AreBoardPars}
use Rattle.tournaments.specs.Putting.{PutsPage, page_fact, par_tags}
use Rattle.page_laws.specs.TablesPages.{IsTablesPage}
use Rattle.page_laws.specs.WholePages.{IsWholePage}
use Rattle.page_laws.specs.SheetPages.{IsSheetPage}

-- the tables with these pars alone, the text with them in it, or a sheet, each as it is read
abbrev pub form_read : PageForm → Renews → Pars → PageFact
form_read form.Tables renews pars = IsTablesPage pars
form_read form.Whole renews pars = IsWholePage renews pars
form_read form.Sheet renews pars = IsSheetPage pars

-- the page without pars, or with those of the boards
abbrev pub par_read : ParTags → PageForm → PageFact
par_read Without form text boards events page = form_read form Tables [] text boards events page
par_read With form text boards events page =
    (pars : Pars) × AreBoardPars text (book_results boards events) pars
    × form_read form TablesAndPars pars text boards events page

abbrev pub page_read : Page → PageFact
page_read page = par_read (par_tags page) page.form

-- a page that is put of a text's boards, after a true history over them, is read so
abbrev pub PutPagesAreRead : Type 0
PutPagesAreRead =
    (asked : Page) (text : List ℕ) (book : Ledger) (sink sink' : Device) (result : Result Report MakeFault) →
    TextAnswers text (Ok book.terms.boards) → IsTrueHistory book.terms book.events →
    PutsPage (page_fact asked) text book sink sink' result → PutsPage (page_read asked) text book sink sink' result

-- so is a page that is made by a run with a true history
abbrev pub MadePagesAreRead : Type 0
MadePagesAreRead =
    (asked : Page) (term tries : ℕ) (old new : Devices) (result : Result (Report × Ledger) MakeFault) →
    MakesPage IsTrueHistory (page_fact asked) term tries old new result →
    MakesPage IsTrueHistory (page_read asked) term tries old new result
