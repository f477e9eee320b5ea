-- The page of a book: which one is asked for, and how it is put into a sink.
use Rattle.std.specs.Prelude.{◌≡◌, ℕ, List, [], Result, Ok, Err}
use Rattle.tournaments.specs.declared.pages.Page.{Page}
use Rattle.tournaments.specs.declared.pages.PageForm.{PageForm}
use Rattle.tournaments.specs.declared.pages.PageForm.TheVariants as form
use Rattle.tournaments.specs.declared.pages.ParTags.{ParTags}
use Rattle.tournaments.specs.declared.pages.ParTags.TheVariants.{Without, With}
use Rattle.cards.specs.Devices.{Device, Adds, AddsBeginning}
use Rattle.lease_book.specs.Books.{Ledger}
use Rattle.tournaments.specs.BookResults.{book_results}
use Rattle.tables.specs.declared.results.Report.{Report}
use Rattle.tables.specs.declared.results.Renews.{Renews}
use Rattle.tables.specs.declared.results.Renews.TheVariants.{Tables, TablesAndPars}
use Rattle.tournaments.specs.declared.faults.MakeFault.{MakeFault}
use Rattle.tournaments.specs.declared.faults.MakeFault.TheVariants.{OutOfMemory, Read, Pbn, NoThread, Write}
use Rattle.tournaments.specs.Making.{PageFact, AreReported}
use Rattle.tournaments.specs.Pages.{Pars, AreTables}
use Rattle.tournaments.specs.WholePages.{HasTables}
use Rattle.tournaments.specs.SheetPages.{IsSheet}
use Rattle.tournaments.specs.Pars.{AreBoardPars}

-- the tables with these pars alone, the text with them in it, or a sheet
abbrev pub form_fact : PageForm → Renews → Pars → PageFact
form_fact form.Tables renews pars = AreTables pars
form_fact form.Whole renews pars = HasTables renews pars
form_fact form.Sheet renews pars = IsSheet pars

-- the page without pars, or with those of the boards
abbrev pub par_fact : ParTags → PageForm → PageFact
par_fact Without form text boards events page = form_fact form Tables [] text boards events page
par_fact With form text boards events page =
    (pars : Pars) × AreBoardPars text (book_results boards events) pars
    × form_fact form TablesAndPars pars text boards events page

-- a sheet has pars in any case
abbrev pub form_tags : PageForm → ParTags → ParTags
form_tags form.Tables par = par
form_tags form.Whole par = par
form_tags form.Sheet par = With

abbrev pub par_tags : Page → ParTags
par_tags page = form_tags page.form page.par

abbrev pub page_fact : Page → PageFact
page_fact page = par_fact (par_tags page) page.form

-- Such a page of a text and the book over its boards was written, which the report counts, or a beginning of it before
-- the sink failed, or nothing, since memory ran out.
abbrev pub PutsPage : PageFact → List ℕ → Ledger → Device → Device → Result Report MakeFault → Type 0
PutsPage is_page text book sink sink' (Ok report) =
    (page : List ℕ) × is_page text book.terms.boards book.events page × Adds sink sink' page
    × AreReported book.terms.boards book.events report
PutsPage is_page text book sink sink' (Err OutOfMemory) = sink' ≡ sink
PutsPage is_page text book sink sink' (Err Read) = ⊥
PutsPage is_page text book sink sink' (Err (Pbn fault)) = ⊥
PutsPage is_page text book sink sink' (Err NoThread) = ⊥
PutsPage is_page text book sink sink' (Err Write) =
    (page : List ℕ) × is_page text book.terms.boards book.events page × AddsBeginning sink sink' page
