-- How the page of a whole tournament is read, line by line (`PageReading` of `text_laws` has the rules).
use Rattle.std.specs.Prelude.{◌≡◌, ℕ, List, Some, Ok, All, ⊤}
use Rattle.std.specs.List.{AllZip, enumerate_from}
use Rattle.cards.specs.Deal.{Deal}
use Rattle.pbn_deals.specs.declared.boards.Board.{Board}
use Rattle.pbn_deals.specs.Lines.{lines_of}
use Rattle.pbn_deals.specs.Reading.{TextAnswers}
use Rattle.strategies.specs.Values.{IsValue}
use Rattle.lease_book.specs.declared.events.Event.{Event}
use Rattle.lease_book.specs.Histories.{Terms}
use Rattle.lease_book.specs.TrueHistories.{IsTrueHistory}
use Rattle.tournaments.specs.BookResults.{book_results}
use Rattle.tables.specs.TablesText.{printed_with}
use Rattle.text_laws.specs.ConditionLaws.{KeepsConditions}
use Rattle.text_laws.specs.PageReading.{Row, Table, Rows, Incomplete, Block, page_in}
use Rattle.text_laws.specs.WrittenOnce.{SayBoards}
use Rattle.tournaments.specs.Pages.{Pars, AreSmallPars, history_text}

-- the row's number is the double-dummy value of the board's deal, for the row's declarer and denomination
abbrev pub IsTrueRow : Board → Row → Type 0
IsTrueRow board row =
    (deal : Deal) × (board.deal ≡ Some deal) × IsValue deal row.declarer row.denomination row.tricks

-- each number of a table is true; if some numbers are unknown, the table has none
abbrev pub IsTrueTable : Board → Table → Type 0
IsTrueTable board (Rows rows) = All (IsTrueRow board) rows
IsTrueTable board (Incomplete count) = ⊤

-- The page is read as one block for each board, in their order, and nothing else. A block has the board's name and its
-- deal. Then it has its par, if it has one, and twenty rows, one for each declarer and denomination, with the number
-- that the history publishes, or it says how many of the twenty are published (`SaysBoard`). Each number in it is the
-- double-dummy value. The page, read as a text, has the conditions from which its pars were taken.
pub record IsReadOnce (pars : Pars) (boards : List Board) (events : List Event) (page : List ℕ) : Type 0 where
  pub blocks : List Block
  pub read : page_in (lines_of page) ≡ Some blocks
  pub boards_said : SayBoards (printed_with pars (book_results boards events)) (enumerate_from 0 boards) blocks
  pub conditions : KeepsConditions (printed_with pars (book_results boards events)) boards page
  pub values : AllZip (λ board block. IsTrueTable board block.section.table) boards blocks

-- the page is the text of all boards with these pars, and is read so
abbrev pub IsTablesPage : Pars → List ℕ → List Board → List Event → List ℕ → Type 0
IsTablesPage pars text boards events page =
    (page ≡ history_text pars boards events) × IsReadOnce pars boards events page

-- the page of the boards that any text says, after any true history over them, is read so, whatever small pars it has
abbrev pub TablesPagesAreRead : Type 0
TablesPagesAreRead =
    (text : List ℕ) (terms : Terms) (events : List Event) (pars : Pars) →
    TextAnswers text (Ok terms.boards) → IsTrueHistory terms events → AreSmallPars pars →
    IsReadOnce pars terms.boards events (history_text pars terms.boards events)
