-- The page of a tournament is read as its boards, each with the double-dummy values of its deal.
use Rattle.std.proofs.Common.{◌≡◌, ℕ, suc, ◌+◌, ◌<◌, ◌≤◌, Bool, true, false, cond, zero, List, [], ◌∷◌, length, map, get_or, Option, None, Some, IfSome, refl, sym, ◌∙◌, ap, subst, arith, All}
use Rattle.std.specs.Prelude.{filter, slice_get}
use Rattle.std.specs.List.{AllZip, AllByRecursion, enumerate_from}
use Rattle.std.proofs.lemmas.Bool.{both_ways, and_from}
use Rattle.std.proofs.lemmas.List.Elements.{All-get_or, All-from_recursion, All-head, All-tail}
use Rattle.std.proofs.lemmas.Option.{slice_get_within, get_or_from_slice_get}
use Rattle.cards.specs.declared.seats.Seat.{Seat}
use Rattle.cards.specs.declared.suits.Suit.TheVariants.{Spades, Hearts, Diamonds, Clubs}
use Rattle.cards.specs.declared.suits.Trump.{Trump}
use Rattle.cards.specs.declared.suits.Trump.TheVariants as trump
use Rattle.cards.specs.Deal.{Deal}
use Rattle.cards.specs.Seats.{is_same_seat}
use Rattle.cards.specs.SameDeal.{is_same_seat-refl}
use Rattle.pbn_deals.specs.declared.boards.Board.{Board}
use Rattle.pbn_deals.specs.Printable.{IsBoardDeal, IsPrintable}
use Rattle.pbn_deals.proofs.PrintableBoards.{boards_are_printable}
use Rattle.strategies.specs.Values.{IsValue}
use Rattle.lease_book.specs.declared.entries.Entry.{Entry}
use Rattle.lease_book.specs.declared.events.Event.{Event}
use Rattle.lease_book.specs.Histories.{deal_of, published_in}
use Rattle.lease_book.proofs.TwinLaws.{board_with}
use Rattle.lease_book.specs.TrueHistories.{AreValues}
use Rattle.tournaments.specs.BookResults.{book_results}
use Rattle.tables.specs.declared.pars.BoardPar.{BoardPar}
use Rattle.tables.specs.ParText.{IsSmallPar}
use Rattle.tables.specs.TablesText.{printed_with}
use Rattle.text_laws.specs.ReadBack.{AreTricks}
use Rattle.text_laws.specs.PageReading.{Row, Table, Rows, Incomplete, Block}
use Rattle.text_laws.specs.WrittenOnce.{is_same_denomination, is_row_of, numbers_in, SaysResults, SayBoards}
use Rattle.text_laws.proofs.PageBack.{table_texts_are_read}
use Rattle.text_laws.proofs.PageConditions.{pages_keep_conditions}
use Rattle.tournaments.specs.Pages.{Pars, AreSmallPars}
use Rattle.page_laws.specs.TablesPages.{IsTrueRow, IsTrueTable, TablesPagesAreRead}

-- ---- a number that is published is at most 13
at_most_13 : (deal : Option Deal) (dealt : Deal) (declarer : Seat) (denomination : Trump) (tricks : ℕ) → deal ≡ Some dealt → IsBoardDeal deal → IsValue dealt declarer denomination tricks → tricks ≤ 13
at_most_13 deal dealt declarer denomination tricks is whole value =
    let size = (subst IsBoardDeal is whole).size in
    omega (arith, size, value.within)

printable_at : (boards : List Board) (number : ℕ) (board : Board) → All IsPrintable boards → slice_get boards number ≡ Some board → IsPrintable board
printable_at boards number board printable there =
    subst IsPrintable (get_or_from_slice_get boards number board board there)
    (All-get_or IsPrintable boards number board (slice_get_within boards number board there) printable)

are_at_most_13 : (boards : List Board) (events : List Event) → All IsPrintable boards → AreValues boards events → (place : ℕ) (declarer : Seat) (denomination : Trump) → IfSome (book_results boards events place declarer denomination) (λ tricks. tricks ≤ 13)
are_at_most_13 boards events printable values place declarer denomination = go (published_in boards events entry) refl
  where
    entry : Entry
    entry = record { board = place; declarer = declarer; trump = denomination }

    go : (published : Option ℕ) → published_in boards events entry ≡ published → IfSome published (λ tricks. tricks ≤ 13)
    go None is = tt
    go (Some tricks) is =
        let value = values entry tricks is in
        let board = board_with boards place value.0 value.1 in
        at_most_13 (board.0).deal value.0 declarer denomination tricks board.2 (printable_at boards place board.0 printable board.1).deal value.2

-- where there is no par, none is large
small_at : (pars : Pars) → AreSmallPars pars → (place : ℕ) → IfSome (get_or pars place None) IsSmallPar
small_at [] small place = tt
small_at (par ∷ pars) small zero = All-head (λ (par : Option BoardPar). IfSome par IsSmallPar) par pars small
small_at (par ∷ pars) small (suc place) = small_at pars (All-tail (λ (par : Option BoardPar). IfSome par IsSmallPar) par pars small) place

pub are_tricks : (boards : List Board) (events : List Event) (pars : Pars) → All IsPrintable boards → AreValues boards events → AreSmallPars pars → AreTricks (printed_with pars (book_results boards events))
are_tricks boards events pars printable values small =
    record { at_most = are_at_most_13 boards events printable values; pars = small_at pars small }

-- ---- a row is the one of its declarer and denomination
same_denomination : (denomination : Trump) → is_same_denomination denomination denomination ≡ true
same_denomination trump.Nt = refl
same_denomination (trump.Suit Spades) = refl
same_denomination (trump.Suit Hearts) = refl
same_denomination (trump.Suit Diamonds) = refl
same_denomination (trump.Suit Clubs) = refl

is_row_of-itself : (row : Row) → is_row_of row.declarer row.denomination row ≡ true
is_row_of-itself row =
    and_from (is_same_seat row.declarer row.declarer) (is_same_denomination row.denomination row.denomination)
    (is_same_seat-refl row.declarer) (same_denomination row.denomination)

-- what the mapped elements that pass have, each has that passes
kept : {X : Type 0} (p : X → Bool) (f : X → ℕ) (P : ℕ → Type 0) (xs : List X) → AllByRecursion P (map f (filter p xs)) → AllByRecursion (λ x. p x ≡ true → P (f x)) xs
kept p f P [] h = tt
kept p f P (x ∷ xs) h = go (p x) refl h (kept p f P xs)
  where
    go : (b : Bool) → p x ≡ b → AllByRecursion P (map f (cond b (x ∷ filter p xs) (filter p xs)))
        → (AllByRecursion P (map f (filter p xs)) → AllByRecursion (λ x. p x ≡ true → P (f x)) xs)
        → (p x ≡ true → P (f x)) × AllByRecursion (λ x. p x ≡ true → P (f x)) xs
    go true e h later = (λ _. h.0, later h.1)
    go false e h later = (λ passes. absurd (both_ways (p x) e passes), later h)

only_number : (rows : List Row) (declarer : Seat) (denomination : Trump) (tricks : ℕ) → numbers_in rows declarer denomination ≡ tricks ∷ [] → All (λ row. is_row_of declarer denomination row ≡ true → row.tricks ≡ tricks) rows
only_number rows declarer denomination tricks once =
    All-from_recursion _ rows
    (kept (is_row_of declarer denomination) (λ row. row.tricks) (λ number. number ≡ tricks) rows
    (subst (AllByRecursion (λ number. number ≡ tricks)) (sym once) (refl, tt)))

-- ---- the blocks
-- each board of these has its deal in its place among all, which is so far on
abbrev pub StandAt : List Board → ℕ → List Board → Type 0
StandAt all place boards = (i : ℕ) → deal_of all (place + i) ≡ deal_of boards i

pub stand_later : (all : List Board) (place : ℕ) (board : Board) (boards : List Board) → StandAt all place (board ∷ boards) → StandAt all (place + 1) boards
stand_later all place board boards stand i =
    let e : (place + 1) + i ≡ place + suc i = omega arith in
    ap (deal_of all) e ∙ stand (suc i)

pub stand_here : (all : List Board) (place : ℕ) (board : Board) (boards : List Board) → StandAt all place (board ∷ boards) → deal_of all place ≡ board.deal
stand_here all place board boards stand =
    let e : place ≡ place + 0 = omega arith in
    ap (deal_of all) e ∙ stand 0

true_row : (all : List Board) (events : List Event) (place : ℕ) (board : Board) (rows : List Row) → AreValues all events → deal_of all place ≡ board.deal → SaysResults (book_results all events place) (Rows rows) → (k : ℕ) (d : Row) → k < length rows → IsTrueRow board (get_or rows k d)
true_row all events place board rows values here says k d within =
    let row = get_or rows k d in
    let written = says.1 row.declarer row.denomination in
    let value = values (record { board = place; declarer = row.declarer; trump = row.denomination }) written.tricks written.result in
    let same : row.tricks ≡ written.tricks = only_number rows row.declarer row.denomination written.tricks written.once k d within (is_row_of-itself row) in
    (value.0, sym here ∙ value.1, subst (λ tricks. IsValue value.0 row.declarer row.denomination tricks) (sym same) value.2)

pub true_table : (all : List Board) (events : List Event) (place : ℕ) (board : Board) (table : Table) → AreValues all events → deal_of all place ≡ board.deal → SaysResults (book_results all events place) table → IsTrueTable board table
true_table all events place board (Rows rows) values here says = true_row all events place board rows values here says
true_table all events place board (Incomplete count) values here says = tt

true_tables : (all : List Board) (events : List Event) (pars : Pars) → AreValues all events → (place : ℕ) (boards : List Board) (blocks : List Block) → StandAt all place boards → SayBoards (printed_with pars (book_results all events)) (enumerate_from place boards) blocks → AllZip (λ board block. IsTrueTable board block.section.table) boards blocks
true_tables all events pars values place [] [] stand says = tt
true_tables all events pars values place [] (block ∷ blocks) stand says = absurd says
true_tables all events pars values place (board ∷ boards) [] stand says = absurd says
true_tables all events pars values place (board ∷ boards) (block ∷ blocks) stand says = (
  true_table all events place board block.section.table values (stand_here all place board boards stand) says.0.section.table,
  true_tables all events pars values (place + 1) boards blocks (stand_later all place board boards stand) says.1,
)

pub tables_pages_are_read : TablesPagesAreRead
tables_pages_are_read text terms events pars says history small =
    let boards = terms.boards in
    let printable = (boards_are_printable text boards says).0 in
    let printed = printed_with pars (book_results boards events) in
    let tricks = are_tricks boards events pars printable history.values small in
    let page = table_texts_are_read boards printed printable tricks in
    record {
      blocks = page.0;
      read = page.1;
      boards_said = page.2;
      conditions = pages_keep_conditions boards printed printable tricks;
      values = true_tables boards events pars history.values 0 boards page.0 (λ i. let e : 0 + i ≡ i = omega arith in ap (deal_of boards) e) page.2;
    }
