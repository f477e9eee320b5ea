-- The sheet of a tournament: a page of HTML to print.
use Rattle.std.specs.Prelude.{◌≡◌, ℕ, List}
use Rattle.pbn_deals.specs.declared.boards.Board.{Board}
use Rattle.board_conditions.specs.Games.{HasConditions}
use Rattle.board_conditions.specs.Titles.{HasTitles, HasFirstTitles}
use Rattle.lease_book.specs.declared.events.Event.{Event}
use Rattle.tournaments.specs.BookResults.{book_results}
use Rattle.tables.specs.TablesText.{printed_with}
use Rattle.sheets.specs.Markup.{Shown, page_of}
use Rattle.tournaments.specs.Pages.{Pars}

-- the sheet shows what the text says of its boards beside their deals: where and when they were played, who deals and
-- who is vulnerable
pub record IsSaid (text : List ℕ) (shown : Shown) : Type 0 where
  pub head : HasFirstTitles text shown.head
  pub titles : HasTitles text shown.titles
  pub conditions : HasConditions text shown.conditions

-- a sheet of these boards shows these pars and the numbers that the history publishes
pub record IsShown (pars : Pars) (text : List ℕ) (boards : List Board) (events : List Event) (shown : Shown)
    : Type 0 where
  pub boards_are : shown.boards ≡ boards
  pub printed_is : shown.printed ≡ printed_with pars (book_results boards events)
  pub said : IsSaid text shown

-- the page is the sheet of the text's boards with these pars
pub record IsSheet (pars : Pars) (text : List ℕ) (boards : List Board) (events : List Event) (page : List ℕ)
    : Type 0 where
  pub shown : Shown
  pub shows : IsShown pars text boards events shown
  pub is : page ≡ page_of shown
