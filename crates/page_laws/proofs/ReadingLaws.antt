-- Each page that is put, made or replayed is read as the law of its form says.
use Rattle.std.proofs.Common.{ℕ, List, [], Ok, Err, sym, subst}
use Rattle.std.specs.Prelude.{IfSome, Option}
use Rattle.std.proofs.lemmas.List.Elements.{All-nil}
use Rattle.tournaments.specs.declared.pages.Page.{Page}
use Rattle.tournaments.specs.declared.pages.PageForm.{PageForm}
use Rattle.tournaments.specs.declared.pages.PageForm.TheVariants as form
use Rattle.tournaments.specs.declared.pages.ParTags.{ParTags}
use Rattle.tournaments.specs.declared.pages.ParTags.TheVariants.{Without, With}
use Rattle.pbn_deals.specs.Reading.{TextAnswers}
use Rattle.lease_book.specs.declared.events.Event.{Event}
use Rattle.lease_book.specs.Histories.{Terms}
use Rattle.lease_book.specs.TrueHistories.{IsTrueHistory}
use Rattle.tables.specs.declared.pars.BoardPar.{BoardPar}
use Rattle.tables.specs.declared.results.Renews.{Renews}
use Rattle.tables.specs.declared.results.Renews.TheVariants.{Tables, TablesAndPars}
use Rattle.tables.specs.ParText.{IsSmallPar}
use Rattle.tournaments.specs.declared.faults.MakeFault.TheVariants.{OutOfMemory, Read, Pbn, NoThread, Write}
use Rattle.tournaments.specs.Pages.{Pars, AreSmallPars}
use Rattle.tournaments.specs.Putting.{form_fact, par_fact, page_fact, par_tags}
use Rattle.page_laws.specs.TablesPages.{IsReadOnce}
use Rattle.page_laws.specs.SheetPages.{IsSheetPage}
use Rattle.page_laws.specs.Readings.{form_read, par_read, page_read, PutPagesAreRead, MadePagesAreRead}
use Rattle.page_laws.specs.ReplayedTables.{ReplayedTablesAreRead}
use Rattle.page_laws.proofs.TablesPageLaws.{tables_pages_are_read}
use Rattle.page_laws.proofs.WholePageLaws.{whole_pages_are_read}
use Rattle.page_laws.proofs.SheetLaws.{sheet_pages_are_read}

-- without pars none is large
no_pars : AreSmallPars []
no_pars = All-nil (λ (par : Option BoardPar). IfSome par IsSmallPar)

module _ (text : List ℕ) (terms : Terms) (events : List Event) (says : TextAnswers text (Ok terms.boards)) (history : IsTrueHistory terms events) where
  form_is_read : (which : PageForm) (renews : Renews) (pars : Pars) (page : List ℕ) → AreSmallPars pars → form_fact which renews pars text terms.boards events page → form_read which renews pars text terms.boards events page
  form_is_read form.Tables renews pars page small is = (is, subst (λ (p : List ℕ). IsReadOnce pars terms.boards events p) (sym is) (tables_pages_are_read text terms events pars says history small))
  form_is_read form.Whole renews pars page small whole = whole_pages_are_read renews text terms events pars page says history small whole
  form_is_read form.Sheet renews pars page small sheet = subst (λ (p : List ℕ). IsSheetPage pars text terms.boards events p) (sym sheet.is) (sheet_pages_are_read text terms events pars sheet.shown says history small sheet.shows)

  par_is_read : (tags : ParTags) (which : PageForm) (page : List ℕ) → par_fact tags which text terms.boards events page → par_read tags which text terms.boards events page
  par_is_read Without which page fact = form_is_read which Tables [] page no_pars fact
  par_is_read With which page (pars, are, fact) = (pars, are, form_is_read which TablesAndPars pars page are.small fact)

  pub page_is_read : (asked : Page) (page : List ℕ) → page_fact asked text terms.boards events page → page_read asked text terms.boards events page
  page_is_read asked page fact = par_is_read (par_tags asked) asked.form page fact

pub put_pages_are_read : PutPagesAreRead
put_pages_are_read asked text book sink sink' (Ok report) says history (page, is, written, counts) = (page, page_is_read text book.terms book.events says history asked page is, written, counts)
put_pages_are_read asked text book sink sink' (Err OutOfMemory) says history put = put
put_pages_are_read asked text book sink sink' (Err Read) says history put = absurd put
put_pages_are_read asked text book sink sink' (Err (Pbn fault)) says history put = absurd put
put_pages_are_read asked text book sink sink' (Err NoThread) says history put = absurd put
put_pages_are_read asked text book sink sink' (Err Write) says history (page, is, written) = (page, page_is_read text book.terms book.events says history asked page is, written)

pub made_pages_are_read : MadePagesAreRead
made_pages_are_read asked term tries old new (Ok (report, book)) made =
    let says = subst (λ (t : Terms). TextAnswers made.read.text (Ok t.boards)) (sym made.terms) made.read.read in
    let fact = subst (λ (t : Terms). page_fact asked made.read.text t.boards book.events made.page) (sym made.terms) made.is in
    let read = page_is_read made.read.text book.terms book.events says made.run asked made.page fact in
    record {
      boards = made.boards;
      read = made.read;
      terms = made.terms;
      run = made.run;
      page = made.page;
      is = subst (λ (t : Terms). page_read asked made.read.text t.boards book.events made.page) made.terms read;
      written = made.written;
      counts = made.counts;
    }
made_pages_are_read asked term tries old new (Err OutOfMemory) made = made
made_pages_are_read asked term tries old new (Err Read) made = made
made_pages_are_read asked term tries old new (Err (Pbn fault)) made = made
made_pages_are_read asked term tries old new (Err NoThread) made = made
made_pages_are_read asked term tries old new (Err Write) made = record {
  boards = made.boards;
  read = made.read;
  events = made.events;
  run = made.run;
  page = made.page;
  is = page_is_read made.read.text (record { boards = made.boards; term = term; tries = tries }) made.events made.read.read made.run asked made.page made.is;
  written = made.written;
}

pub replayed_tables_are_read : ReplayedTablesAreRead
replayed_tables_are_read text term tries requests sink sink' report filled =
    tables_pages_are_read text (record { boards = filled.boards; term = term; tries = tries }) filled.events [] filled.history.read filled.history.history no_pars
