-- The sheet of a tournament is read as its boards, each with the double-dummy values of its deal.
use Rattle.std.proofs.Common.{◌≡◌, ℕ, ◌+◌, List, [], ◌∷◌, Option, None, Some, refl, sym, ◌∙◌, ap, subst, arith}
use Rattle.std.specs.List.{AllZip}
use Rattle.cards.specs.Deal.{Deal}
use Rattle.pbn_deals.specs.declared.boards.Board.{Board}
use Rattle.pbn_deals.proofs.PrintableBoards.{boards_are_printable}
use Rattle.lease_book.specs.declared.events.Event.{Event}
use Rattle.lease_book.specs.Histories.{deal_of}
use Rattle.lease_book.specs.TrueHistories.{AreValues}
use Rattle.tournaments.specs.BookResults.{book_results}
use Rattle.tables.specs.TablesText.{Printed, printed_with}
use Rattle.text_laws.specs.ReadBack.{AreTricks}
use Rattle.text_laws.specs.PageReading.{Section}
use Rattle.sheets.specs.Markup.{Shown}
use Rattle.sheet_reading.specs.SheetReading.{Block}
use Rattle.sheet_reading.specs.Laws.{SaysPrinted, SaysDeal, SaysBoard, SayBoards, conditions_at}
use Rattle.sheet_reading.proofs.SheetRead.{sheets_are_read}
use Rattle.tournaments.specs.Pages.{Pars}
use Rattle.page_laws.specs.SheetPages.{IsTrueSection, SheetPagesAreRead}
use Rattle.page_laws.proofs.TablesPageLaws.{StandAt, stand_here, stand_later, true_table, are_tricks}

-- what is printed are these results
module _ (all : List Board) (events : List Event) (pars : Pars) (values : AreValues all events)
    (shown : Shown) (is : shown.printed ≡ printed_with pars (book_results all events)) where
  true_section : (place : ℕ) (board : Board) (block : Block) → deal_of all place ≡ board.deal
      → SaysBoard board (conditions_at shown place) (shown.printed place) block → IsTrueSection board block.section
  true_section place board block here says = dealt board.deal says.deal
    where
      printed : (section : Option Section) → SaysPrinted (shown.printed place) section → IsTrueSection board section
      printed None said = absurd said
      printed (Some section) said =
          let same = subst (λ (printed : ℕ → Printed). SaysPrinted (printed place) (Some section)) is said in
          true_table all events place board section.table values here same.table

      dealt : (deal : Option Deal) → SaysDeal deal (conditions_at shown place) (shown.printed place) block → IsTrueSection board block.section
      dealt None said = subst (IsTrueSection board) (sym said.numbers) tt
      dealt (Some deal) said = printed block.section said.numbers

  true_sections : (place : ℕ) (boards : List Board) (blocks : List Block) → StandAt all place boards → SayBoards shown place boards blocks
      → AllZip (λ board block. IsTrueSection board block.section) boards blocks
  true_sections place [] [] stand says = tt
  true_sections place [] (block ∷ blocks) stand says = absurd says
  true_sections place (board ∷ boards) [] stand says = absurd says
  true_sections place (board ∷ boards) (block ∷ blocks) stand says = (
    true_section place board block (stand_here all place board boards stand) says.0,
    true_sections (place + 1) boards blocks (stand_later all place board boards stand) says.1,
  )

pub sheet_pages_are_read : SheetPagesAreRead
sheet_pages_are_read text terms events pars shown says history small shows =
    let boards = terms.boards in
    let printable = (boards_are_printable text boards says).0 in
    let tricks = are_tricks boards events pars printable history.values small in
    let (sheet, read, head, said) = sheets_are_read shown (subst AreTricks (sym shows.printed_is) tricks) in
    let stand : StandAt boards 0 shown.boards = λ i. let e : 0 + i ≡ i = omega arith in
    ap (deal_of boards) e ∙ ap (λ (l : List Board). deal_of l i) (sym shows.boards_are) in
    record {
      shown = shown;
      shows = shows;
      is = refl;
      sheet = sheet;
      read = read;
      head = head;
      boards_said = said;
      values =
          subst (λ (l : List Board). AllZip (λ board block. IsTrueSection board block.section) l sheet.blocks) shows.boards_are
          (true_sections boards events pars history.values shown shows.printed_is 0 shown.boards sheet.blocks stand said);
    }
