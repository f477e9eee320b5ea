-- How a tournament's text with its tables in it is read.
use Rattle.std.specs.Prelude.{ℕ, List, Ok}
use Rattle.std.specs.List.{AllZip, enumerate_from, filter}
use Rattle.pbn_deals.specs.declared.boards.Board.{Board}
use Rattle.pbn_deals.specs.Pieces.{Line, HasLines}
use Rattle.pbn_deals.specs.Reading.{TextAnswers}
use Rattle.lease_book.specs.declared.events.Event.{Event}
use Rattle.lease_book.specs.Histories.{Terms}
use Rattle.lease_book.specs.TrueHistories.{AreValues, IsTrueHistory}
use Rattle.tournaments.specs.BookResults.{book_results}
use Rattle.tables.specs.declared.results.Renews.{Renews}
use Rattle.tables.specs.TablesText.{printed_with}
use Rattle.tournaments.specs.Pages.{Pars, AreSmallPars}
use Rattle.whole_texts.specs.OldTables.{has_deal}
use Rattle.whole_texts.specs.WholeText.{Game, games_of, WholeText}
use Rattle.text_laws.specs.Laws.{LosesNothing, ShowsBoard, ShowGames}

-- the games with a Deal tag, in their order
abbrev pub games_with_deal : List Line → List Game
games_with_deal lines = filter (λ game. has_deal game.lines) (games_of lines)

-- The page is the text with these pars and the tables of its boards in place of its old tables and, if `renews` says
-- so, of its old pars. It is read as the same boards. Without what was put in it, it is the text without what was
-- dropped. Read by its lines, the games with a Deal tag show the boards, in order: each shows the par and the results
-- of its board once, and each result is the double-dummy value of its deal. If the board has no deal, the game shows no
-- results. A game without a Deal tag is as it was.
pub record IsWholePage (renews : Renews) (pars : Pars) (text : List ℕ) (boards : List Board) (events : List Event)
    (page : List ℕ)
    : Type 0 where
  pub whole : WholeText renews text boards (printed_with pars (book_results boards events)) page
  pub same_boards : TextAnswers page (Ok boards)
  pub nothing_lost : LosesNothing renews text (printed_with pars (book_results boards events)) page
  pub lines : List Line
  pub read : HasLines page lines
  pub shown :
      ShowGames renews (printed_with pars (book_results boards events)) (enumerate_from 0 boards) (games_of lines)
  pub in_order :
      AllZip (λ numbered game. ShowsBoard renews (printed_with pars (book_results boards events)) numbered game.lines)
      (enumerate_from 0 boards) (games_with_deal lines)
  pub values : AreValues boards events

-- the page of any text that is read as boards, after any true history over them, is such a page, whatever small pars it
-- has
abbrev pub WholePagesAreRead : Type 0
WholePagesAreRead =
    (renews : Renews) (text : List ℕ) (terms : Terms) (events : List Event) (pars : Pars) (page : List ℕ) →
    TextAnswers text (Ok terms.boards) → IsTrueHistory terms events → AreSmallPars pars →
    WholeText renews text terms.boards (printed_with pars (book_results terms.boards events)) page →
    IsWholePage renews pars text terms.boards events page
