-- A page that was put is the page of a run.
use Rattle.std.proofs.Common.{◌≡◌, ℕ, List, Ok, Err, sym, ap, subst}
use Rattle.cards.specs.Devices.{Device}
use Rattle.pbn_deals.specs.declared.boards.Board.{Board}
use Rattle.pbn_deals.specs.Reading.{TextAnswers}
use Rattle.streams.specs.Inputs.{IsReadToEnd}
use Rattle.streams.specs.RunStreams.{devices}
use Rattle.streams.proofs.ReadLaws.{Loses-all}
use Rattle.lease_book.specs.Books.{Ledger}
use Rattle.lease_book.specs.Histories.{Terms}
use Rattle.tables.specs.declared.results.Report.{Report}
use Rattle.tournaments.specs.declared.faults.MakeFault.{MakeFault}
use Rattle.tournaments.specs.declared.faults.MakeFault.TheVariants.{OutOfMemory, Read, Pbn, NoThread, Write}
use Rattle.tournaments.specs.Making.{RunFact, PageFact, AreReported, FillsPage, BeginsPage, MakesPage}
use Rattle.tournaments.specs.Putting.{PutsPage}

module _ (is_run : RunFact) (is_page : PageFact) (boards : List Board) (term tries : ℕ) (source source' sink sink' : Device) (text : List ℕ) (book : Ledger) (all : IsReadToEnd source source' text) (read : TextAnswers text (Ok boards)) (terms : book.terms ≡ record { boards = boards; term = term; tries = tries }) where
  -- the boards of the text are those of the book
  pub says_boards : TextAnswers text (Ok book.terms.boards)
  says_boards = subst (λ (t : Terms). TextAnswers text (Ok t.boards)) (sym terms) read

  boards_are : book.terms.boards ≡ boards
  boards_are = ap (λ (t : Terms). t.boards) terms

  pub page_filled : is_run book.terms book.events → (report : Report) → PutsPage is_page text book sink sink' (Ok report) → FillsPage is_run is_page term tries (devices source sink) (devices source' sink') report book
  page_filled run report put = record {
    boards = boards;
    read = record { text = text; all = all; read = read };
    terms = terms;
    run = run;
    page = put.0;
    is = subst (λ (b : List Board). is_page text b book.events put.0) boards_are put.1;
    written = put.2;
    counts = subst (λ (b : List Board). AreReported b book.events report) boards_are put.3;
  }

  page_beginning : is_run book.terms book.events → PutsPage is_page text book sink sink' (Err Write) → BeginsPage is_run is_page term tries (devices source sink) (devices source' sink')
  page_beginning run put = record {
    boards = boards;
    read = record { text = text; all = all; read = read };
    events = book.events;
    run = subst (λ (t : Terms). is_run t book.events) terms run;
    page = put.0;
    is = subst (λ (b : List Board). is_page text b book.events put.0) boards_are put.1;
    written = put.2;
  }

  pub page_begun : is_run book.terms book.events → (fault : MakeFault) → PutsPage is_page text book sink sink' (Err fault) → MakesPage is_run is_page term tries (devices source sink) (devices source' sink') (Err fault)
  page_begun run OutOfMemory put = (Loses-all all, put)
  page_begun run Read put = absurd put
  page_begun run (Pbn fault) put = absurd put
  page_begun run NoThread put = absurd put
  page_begun run Write put = page_beginning run put
