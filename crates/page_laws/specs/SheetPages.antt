-- How the sheet of a tournament is read by its elements (`SheetReading` of `sheet_reading` has the rules).
use Rattle.std.specs.Prelude.{◌≡◌, ℕ, List, Option, None, Some, Ok, ⊤}
use Rattle.std.specs.List.{AllZip}
use Rattle.pbn_deals.specs.declared.boards.Board.{Board}
use Rattle.pbn_deals.specs.Reading.{TextAnswers}
use Rattle.lease_book.specs.declared.events.Event.{Event}
use Rattle.lease_book.specs.Histories.{Terms}
use Rattle.lease_book.specs.TrueHistories.{IsTrueHistory}
use Rattle.text_laws.specs.PageReading.{Section}
use Rattle.sheets.specs.Markup.{Shown, page_of}
use Rattle.sheet_reading.specs.SheetReading.{Sheet, sheet_in}
use Rattle.sheet_reading.specs.Laws.{SaysHead, SayBoards}
use Rattle.tournaments.specs.Pages.{Pars, AreSmallPars}
use Rattle.tournaments.specs.SheetPages.{IsShown}
use Rattle.page_laws.specs.TablesPages.{IsTrueTable}

-- each number of the table is true, if there is one
abbrev pub IsTrueSection : Board → Option Section → Type 0
IsTrueSection board None = ⊤
IsTrueSection board (Some section) = IsTrueTable board section.table

-- The page is the sheet of the text's boards with these pars. It is read as its head (`SaysHead`) and one block for each
-- board, in their order, and no other block. A block has the board's name. If the board has a deal, the block has who
-- deals and is vulnerable, in words and in the compass, each hand under the letter of its seat, par, if there is one,
-- and twenty rows, one for each declarer and denomination, with the number that the history publishes, or it says how
-- many of the twenty are published (`SayBoards`). Each number in it is the double-dummy value.
pub record IsSheetPage (pars : Pars) (text : List ℕ) (boards : List Board) (events : List Event) (page : List ℕ)
    : Type 0 where
  pub shown : Shown
  pub shows : IsShown pars text boards events shown
  pub is : page ≡ page_of shown
  pub sheet : Sheet
  pub read : sheet_in page ≡ Some sheet
  pub head : SaysHead shown.head sheet
  pub boards_said : SayBoards shown 0 shown.boards sheet.blocks
  pub values : AllZip (λ board block. IsTrueSection board block.section) boards sheet.blocks

-- the sheet of the boards that any text says, after any true history over them, is read so, whatever small pars it has
abbrev pub SheetPagesAreRead : Type 0
SheetPagesAreRead =
    (text : List ℕ) (terms : Terms) (events : List Event) (pars : Pars) (shown : Shown) →
    TextAnswers text (Ok terms.boards) → IsTrueHistory terms events → AreSmallPars pars →
    IsShown pars text terms.boards events shown →
    IsSheetPage pars text terms.boards events (page_of shown)
