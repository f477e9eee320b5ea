-- A tournament's text as it was read, with its tables in it.
use Rattle.std.specs.Prelude.{ℕ, List}
use Rattle.pbn_deals.specs.declared.boards.Board.{Board}
use Rattle.lease_book.specs.declared.events.Event.{Event}
use Rattle.tournaments.specs.BookResults.{book_results}
use Rattle.tables.specs.declared.results.Renews.{Renews}
use Rattle.tables.specs.TablesText.{printed_with}
use Rattle.tournaments.specs.Pages.{Pars}
use Rattle.whole_texts.specs.WholeText.{WholeText}

-- The page is the text with these pars and the tables of its boards in place of its old tables and, if `renews` says
-- so, of its old pars.
abbrev pub HasTables : Renews → Pars → List ℕ → List Board → List Event → List ℕ → Type 0
HasTables renews pars text boards events page =
    WholeText renews text boards (printed_with pars (book_results boards events)) page
