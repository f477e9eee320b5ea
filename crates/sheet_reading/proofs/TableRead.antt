-- What is read of a board's table.
use Rattle.std.proofs.Common.{◌≡◌, ℕ, ◌+◌, ◌-◌, ◌≤◌, Bool, true, false, cond, List, [], ◌∷◌, ◌++◌, map, Option, None, Some, refl, sym, ◌∙◌, ap, arith, nat_lt, append_assoc}
use Rattle.std.specs.Prelude.{codes, unwrap_or, is_some, IfSome}
use Rattle.std.specs.Fmt.{decimal}
use Rattle.std.proofs.lemmas.Bool.{ltb-true}
use Rattle.std.proofs.lemmas.List.{append-nil}
use Rattle.cards.specs.declared.seats.Seat.{Seat}
use Rattle.cards.specs.declared.seats.Seat.TheVariants.{North, East, South, West}
use Rattle.cards.specs.declared.suits.Suit.TheVariants.{Spades, Hearts, Diamonds, Clubs}
use Rattle.cards.specs.declared.suits.Trump.{Trump}
use Rattle.cards.specs.declared.suits.Trump.TheVariants as trump
use Rattle.cards.specs.Seats.{seat_letter}
use Rattle.tables.specs.TablesText.{Results, published_count, is_complete}
use Rattle.text_laws.specs.PageReading.{Row, Table, Rows, Incomplete}
use Rattle.text_laws.specs.WrittenOnce.{numbers_in, SaysResults}
use Rattle.text_laws.proofs.SmallNumbers.{for_small}
use Rattle.text_laws.proofs.PageBack.{fewer}
use Rattle.text_laws.proofs.BoardsBack.{published_count-le}
use Rattle.sheets.specs.CellText.{level_shown, in_parentheses, tricks_shown}
use Rattle.sheets.specs.Results.{columns}
use Rattle.sheet_reading.specs.Elements.{Piece, before_tag, elements}
use Rattle.sheet_reading.specs.SheetReading.{tricks_in, rows_of, rows_in, table_of_lines, count_in, only_par, section_with, section_of_parts}
use Rattle.sheet_reading.proofs.ElementLemmas.{lacks, before-lacks, Yields, yields-append, yields-nothing}
use Rattle.sheet_reading.proofs.Names.{among, only, only-append, only-lacks, whole-element}
use Rattle.sheet_reading.proofs.TemplatePieces.{table_start, heading_line, line_end, line_start, cell_content, table_end, count_content, count_pieces}
use Rattle.sheet_reading.proofs.FootChunks.{tricks_at, IsKnown, few-known, cells_in, line_in, lines_in, table_content, complete_in, are_known, results_in}

-- ---- a cell
abbrev pub cell_at : ℕ → List Piece
cell_at tricks = cell_content (level_shown tricks) (tricks_shown tricks)

level-number : (n : ℕ) → n ≤ 20 → tricks_in (cell_content (decimal n) []) ≡ Some (n + 6)
level-number = for_small (λ n text. tricks_in (cell_content text []) ≡ Some (n + 6)) refl refl refl refl refl refl refl refl refl refl refl refl refl refl refl refl refl refl refl refl refl

tricks-number : (n : ℕ) → n ≤ 20 → tricks_in (cell_content [] (in_parentheses (decimal n))) ≡ Some n
tricks-number = for_small (λ n text. tricks_in (cell_content [] (in_parentheses text)) ≡ Some n) refl refl refl refl refl refl refl refl refl refl refl refl refl refl refl refl refl refl refl refl refl

cell-read : (tricks : ℕ) → tricks ≤ 13 → tricks_in (cell_at tricks) ≡ Some tricks
cell-read tricks h = go (nat_lt 6 tricks) refl
  where
    go : (makes : Bool) → nat_lt 6 tricks ≡ makes →
        tricks_in (cell_content (cond makes (decimal (tricks - 6)) []) (cond makes [] (in_parentheses (decimal tricks)))) ≡ Some tricks
    go true e =
        let more = ltb-true 6 tricks e in
        let back : tricks - 6 + 6 ≡ tricks = omega (arith, more) in
        level-number (tricks - 6) (omega (arith, h)) ∙ ap (λ n. Some n) back
    go false e = tricks-number tricks (omega (arith, h))

-- ---- a line
abbrev pub line_content : Results → Seat → List Piece
line_content results declarer = line_start (seat_letter declarer) ++ cells_in results declarer columns

abbrev pub row_at : Results → Seat → Trump → Row
row_at results declarer denomination =
    record { declarer = declarer; denomination = denomination; tricks = tricks_at results declarer denomination }

abbrev pub table_columns : List (Option Trump)
table_columns = map (λ denomination. Some denomination) columns

abbrev numbers_read : Results → Seat → List (Option ℕ)
numbers_read results declarer = map (λ denomination. tricks_in (cell_at (tricks_at results declarer denomination))) columns

line-cells : (results : Results) (declarer : Seat) →
    rows_in table_columns (line_content results declarer) ≡ rows_of (Some declarer) table_columns (numbers_read results declarer)
line-cells results North = refl
line-cells results East = refl
line-cells results South = refl
line-cells results West = refl

numbers-are : (results : Results) (declarer : Seat) (denominations : List Trump) → IsKnown results →
    map (λ denomination. tricks_in (cell_at (tricks_at results declarer denomination))) denominations
    ≡ map (λ denomination. Some (tricks_at results declarer denomination)) denominations
numbers-are results declarer [] known = refl
numbers-are results declarer (denomination ∷ denominations) known =
    ap (λ n. n ∷ map (λ d. tricks_in (cell_at (tricks_at results declarer d))) denominations)
    (cell-read (tricks_at results declarer denomination)
    (few-known (results declarer denomination) (known.at_most declarer denomination)))
    ∙ ap (λ t. Some (tricks_at results declarer denomination) ∷ t) (numbers-are results declarer denominations known)

line-read : (results : Results) (declarer : Seat) → IsKnown results →
    rows_in table_columns (line_content results declarer) ≡ Some (map (row_at results declarer) columns)
line-read results declarer known =
    line-cells results declarer ∙ ap (rows_of (Some declarer) table_columns) (numbers-are results declarer columns known)

-- ---- all lines
line-yields : (results : Results) (declarer : Seat) →
    Yields (codes "tr") (line_in results declarer) (line_content results declarer ∷ [])
line-yields results declarer = record { closed = refl; are = refl }

lines-yield : (results : Results) →
    Yields (codes "tr") (table_content results)
    (heading_line ∷ line_content results North ∷ line_content results South ∷ line_content results East
    ∷ line_content results West ∷ [])
lines-yield results =
    let line = line_in results in
    let content = line_content results in
    yields-append (codes "tr") (heading_line ++ line_end ∷ []) (lines_in results) (heading_line ∷ [])
    (content North ∷ content South ∷ content East ∷ content West ∷ []) (record { closed = refl; are = refl })
    (yields-append (codes "tr") (line North) (line South ++ (line East ++ line West)) (content North ∷ [])
    (content South ∷ content East ∷ content West ∷ []) (line-yields results North)
    (yields-append (codes "tr") (line South) (line East ++ line West) (content South ∷ []) (content East ∷ content West ∷ [])
    (line-yields results South)
    (yields-append (codes "tr") (line East) (line West) (content East ∷ []) (content West ∷ []) (line-yields results East)
    (line-yields results West))))

abbrev pub rows_at : Results → List Row
rows_at results =
    map (row_at results North) columns
    ++ (map (row_at results South) columns ++ (map (row_at results East) columns ++ map (row_at results West) columns))

rows-read : (results : Results) → IsKnown results →
    table_of_lines (elements (codes "tr") (table_start ∷ table_content results)) ≡ Some (Rows (rows_at results))
rows-read results known =
    ap table_of_lines (lines-yield results).are
    ∙ rw (line-read results North known, line-read results South known, line-read results East known, line-read results West known) refl

once-at : (results : Results) (declarer : Seat) (denomination : Trump) →
    numbers_in (rows_at results) declarer denomination ≡ tricks_at results declarer denomination ∷ []
once-at results North trump.Nt = refl
once-at results North (trump.Suit Spades) = refl
once-at results North (trump.Suit Hearts) = refl
once-at results North (trump.Suit Diamonds) = refl
once-at results North (trump.Suit Clubs) = refl
once-at results South trump.Nt = refl
once-at results South (trump.Suit Spades) = refl
once-at results South (trump.Suit Hearts) = refl
once-at results South (trump.Suit Diamonds) = refl
once-at results South (trump.Suit Clubs) = refl
once-at results East trump.Nt = refl
once-at results East (trump.Suit Spades) = refl
once-at results East (trump.Suit Hearts) = refl
once-at results East (trump.Suit Diamonds) = refl
once-at results East (trump.Suit Clubs) = refl
once-at results West trump.Nt = refl
once-at results West (trump.Suit Spades) = refl
once-at results West (trump.Suit Hearts) = refl
once-at results West (trump.Suit Diamonds) = refl
once-at results West (trump.Suit Clubs) = refl

known_result : (result : Option ℕ) → is_some result ≡ true → result ≡ Some (unwrap_or result 0)
known_result None e = absurd (cc)
known_result (Some tricks) e = refl

rows-say : (results : Results) → IsKnown results → SaysResults results (Rows (rows_at results))
rows-say results known = (
  refl,
  λ declarer denomination. record {
    tricks = tricks_at results declarer denomination;
    result = known_result (results declarer denomination) (known.some declarer denomination);
    once = once-at results declarer denomination;
  },
)

-- ---- the table, or the number of results
-- the paragraphs that begin before the end of a table
abbrev pub paragraphs_before : List Piece → List (List Piece)
paragraphs_before pieces = elements (codes "p") (before_tag (codes "/table") pieces)

-- What a footer's reader finds in these pieces: tables and paragraphs. With other pieces and their paragraphs after them,
-- they are read as a table that says the results, and as the par of those paragraphs.
pub record ReadsTable (results : Results) (pieces : List Piece) : Type 0 where
  pub tables : List (List Piece)
  pub paragraphs : List (List Piece)
  pub have_tables : Yields (codes "table") pieces tables
  pub have_paragraphs : Yields (codes "p") pieces paragraphs
  pub table : Table
  pub read : (other : List Piece) (others : List (List Piece)) →
      section_of_parts tables (paragraphs_before (pieces ++ other)) (paragraphs ++ others)
      ≡ section_with (only_par others) (Some table)
  pub says : SaysResults results table

abbrev pub table_names : List (List ℕ)
table_names =
    codes "tr" ∷ codes "/tr" ∷ codes "th" ∷ codes "/th" ∷ codes "span" ∷ codes "/span" ∷ codes "td" ∷ codes "/td"
    ∷ codes "small" ∷ codes "/small" ∷ []

line-only : (results : Results) (declarer : Seat) → only table_names (line_in results declarer) ≡ true
line-only results declarer = refl

pub lines-only : (results : Results) → only table_names (lines_in results) ≡ true
lines-only results =
    let line = line_in results in
    only-append table_names (line North) (line South ++ (line East ++ line West)) (line-only results North)
    (only-append table_names (line South) (line East ++ line West) (line-only results South)
    (only-append table_names (line East) (line West) (line-only results East) (line-only results West)))

pub content-only : (results : Results) → only table_names (table_content results) ≡ true
content-only results = only-append table_names (heading_line ++ line_end ∷ []) (lines_in results) refl (lines-only results)

content-lacks : (results : Results) (name : List ℕ) → among table_names name ≡ false → lacks name (table_content results) ≡ true
content-lacks results name apart = only-lacks table_names name (table_content results) apart (content-only results)

-- no paragraph begins before the end of the table
table-first : (results : Results) (other : List Piece) → paragraphs_before (complete_in results ++ other) ≡ []
table-first results other =
    let content = table_content results in
    let free = content-lacks results (codes "p") refl in
    let cut : before_tag (codes "/table") (complete_in results ++ other) ≡ table_start ∷ (content ++ []) =
    ap (λ l. before_tag (codes "/table") (l ++ other)) (sym (ap (λ l. table_start ∷ l)
    (append_assoc (heading_line ++ line_end ∷ []) (lines_in results) (table_end ∷ []))))
    ∙ (ap (before_tag (codes "/table")) (append_assoc (table_start ∷ content) (table_end ∷ []) other)
    ∙ before-lacks (codes "/table") (table_start ∷ content) (table_end ∷ other) (content-lacks results (codes "/table") refl)) in
    ap (elements (codes "p")) (cut ∙ append-nil (table_start ∷ content))
    ∙ (yields-nothing (codes "p") (table_start ∷ content) free).are

complete-read : (results : Results) → IsKnown results → ReadsTable results (complete_in results)
complete-read results known = record {
  tables = (table_start ∷ table_content results) ∷ [];
  paragraphs = [];
  have_tables =
      whole-element (codes "table") table_start table_end (table_content results) refl refl refl
      (content-lacks results (codes "table") refl) (content-lacks results (codes "/table") refl);
  have_paragraphs =
      yields-append (codes "p") (table_start ∷ table_content results) (table_end ∷ []) [] []
      (yields-nothing (codes "p") (table_start ∷ table_content results) (content-lacks results (codes "p") refl))
      (record { closed = refl; are = refl });
  table = Rows (rows_at results);
  read = λ other others.
      ap (λ before. section_of_parts ((table_start ∷ table_content results) ∷ []) before others) (table-first results other)
      ∙ ap (section_with (only_par others)) (rows-read results known);
  says = rows-say results known;
}

count-number : (n : ℕ) → n ≤ 20 → count_in (count_content (decimal n)) ≡ Some (Incomplete n)
count-number = for_small (λ n text. count_in (count_content text) ≡ Some (Incomplete n)) refl refl refl refl refl refl refl refl refl refl refl refl refl refl refl refl refl refl refl refl refl

incomplete-read : (results : Results) → is_complete results ≡ false → ReadsTable results (count_pieces (decimal (published_count results)))
incomplete-read results f = record {
  tables = [];
  paragraphs = count_content (decimal (published_count results)) ∷ [];
  have_tables = record { closed = refl; are = refl };
  have_paragraphs = record { closed = refl; are = refl };
  table = Incomplete (published_count results);
  read = λ other others. ap (section_with (only_par others)) (count-number (published_count results) (published_count-le results));
  says = (refl, fewer results f);
}

pub results-read : (results : Results) →
    ((declarer : Seat) (denomination : Trump) → IfSome (results declarer denomination) (λ tricks. tricks ≤ 13)) →
    ReadsTable results (results_in results)
results-read results at_most = go (is_complete results) (are_known results at_most) (incomplete-read results)
  where
    go : (complete : Bool) → (complete ≡ true → IsKnown results) →
        (complete ≡ false → ReadsTable results (count_pieces (decimal (published_count results)))) →
        ReadsTable results (cond complete (complete_in results) (count_pieces (decimal (published_count results))))
    go true known few = complete-read results (known refl)
    go false known few = few refl
