-- A tournament's text with its tables is read as its boards, each with the double-dummy values of its deal.
use Rattle.std.proofs.Common.{ℕ, Bool, true, false, List, [], ◌∷◌, cond, sym, subst}
use Rattle.std.specs.List.{AllZip, enumerate_from, filter}
use Rattle.pbn_deals.specs.declared.boards.Board.{Board}
use Rattle.pbn_deals.proofs.PrintableBoards.{boards_are_printable}
use Rattle.tournaments.specs.BookResults.{book_results}
use Rattle.tables.specs.declared.results.Renews.{Renews}
use Rattle.tables.specs.TablesText.{Printed, printed_with}
use Rattle.whole_texts.specs.OldTables.{has_deal}
use Rattle.whole_texts.specs.WholeText.{Game}
use Rattle.text_laws.specs.Laws.{Where, ShowsBoard, ShowGames}
use Rattle.text_laws.proofs.WrittenLines.{keep_boards}
use Rattle.text_laws.proofs.NothingLost.{lose_nothing}
use Rattle.text_laws.proofs.ShownOnce.{show_each_once}
use Rattle.page_laws.specs.WholePages.{WholePagesAreRead}
use Rattle.page_laws.proofs.TablesPageLaws.{are_tricks}

-- ---- the games with a Deal tag
module _ (renews : Renews) (printed : ℕ → Printed) where
  abbrev Shows : ℕ × Board → Game → Type 0
  Shows numbered game = ShowsBoard renews printed numbered game.lines

  abbrev is_dealt : Game → Bool
  is_dealt game = has_deal game.lines

  -- one game more, by whether it has a Deal tag
  one_more : (dealt : Bool) (numbered : ℕ × Board) (more : List (ℕ × Board)) (game : Game) (games rest : List Game) → (ShowGames renews printed more games → AllZip Shows more rest) → (ShowGames renews printed (numbered ∷ more) games → AllZip Shows (numbered ∷ more) rest) → Where dealt (ShowsBoard renews printed numbered game.lines × ShowGames renews printed more games) (ShowGames renews printed (numbered ∷ more) games) → AllZip Shows (numbered ∷ more) (cond dealt (game ∷ rest) rest)
  one_more true numbered more game games rest with_it without shown = (shown.0, with_it shown.1)
  one_more false numbered more game games rest with_it without shown = without shown

  in_order : (boards : List (ℕ × Board)) (games : List Game) → ShowGames renews printed boards games → AllZip Shows boards (filter is_dealt games)
  in_order [] [] shown = tt
  in_order (numbered ∷ more) [] shown = absurd shown
  in_order [] (game ∷ games) shown = subst (λ (dealt : Bool). AllZip Shows [] (cond dealt (game ∷ filter is_dealt games) (filter is_dealt games))) (sym shown.0) (in_order [] games shown.1)
  in_order (numbered ∷ more) (game ∷ games) shown = one_more (has_deal game.lines) numbered more game games (filter is_dealt games) (in_order more games) (in_order (numbered ∷ more) games) shown

-- ---- the law
pub whole_pages_are_read : WholePagesAreRead
whole_pages_are_read renews text terms events pars page says history small whole =
    let boards = terms.boards in
    let printed = printed_with pars (book_results boards events) in
    let tricks = are_tricks boards events pars (boards_are_printable text boards says).0 history.values small in
    let shown = show_each_once renews text boards printed page says tricks whole in
    record {
      whole = whole;
      same_boards = keep_boards renews text boards printed page says tricks whole;
      nothing_lost = lose_nothing renews text boards printed page whole;
      lines = shown.0;
      read = shown.1;
      shown = shown.2;
      in_order = in_order renews printed (enumerate_from 0 boards) _ shown.2;
      values = history.values;
    }
