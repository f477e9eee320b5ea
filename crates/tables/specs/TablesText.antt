-- The text of the tables of a list of boards (PBN 2.1, the Board, Deal and OptimumResultTable tags).
use Rattle.std.specs.Prelude.{ℕ, ◌==◌, List, [], ◌∷◌, ◌++◌, length, codes, map, Bool, count_by, Option, Some, None}
use Rattle.std.specs.Prelude.{is_some, if◌then◌else◌, nat_lt, slice_index_or}
use Rattle.std.specs.List.{flat_map, enumerate_from}
use Rattle.std.specs.Fmt.{decimal}
use Rattle.cards.specs.declared.seats.Seat.{Seat}
use Rattle.cards.specs.declared.seats.Seat.TheVariants.{North, East, South, West}
use Rattle.cards.specs.declared.suits.Suit.TheVariants.{Spades, Hearts, Diamonds, Clubs}
use Rattle.cards.specs.declared.suits.Trump.{Trump}
use Rattle.cards.specs.declared.suits.Trump.TheVariants as trump
use Rattle.cards.specs.Pack.{trump_letters}
use Rattle.cards.specs.Seats.{seat_letter}
use Rattle.cards.specs.Deal.{Deal}
use Rattle.pbn_deals.specs.declared.boards.Board.{Board}
use Rattle.pbn_deals.specs.DealText.{deal_text}
use Rattle.tables.specs.declared.pars.BoardPar.{BoardPar}
use Rattle.tables.specs.ConditionTags.{conditions_text}
use Rattle.tables.specs.ParText.{par_text}
use Rattle.cards.specs.Bytes as ascii

-- the results of one board that are known, by declarer and denomination
abbrev pub Results : Type 0
Results = Seat → Trump → Option ℕ

-- what is printed of a board beside its name and its deal: its results, and its par, if that is printed
pub record Printed : Type 0 where
  pub results : Results
  pub par : Option BoardPar

-- the results, and these pars, one for each place, as far as there are any
abbrev pub printed_with : List (Option BoardPar) → (ℕ → Results) → ℕ → Printed
printed_with pars results place = record { results = results place; par = slice_index_or pars place None }

abbrev pub line_feed : List ℕ
line_feed = ascii.line_feed ∷ []

-- a text and its line feed
abbrev pub ended_line : List ℕ → List ℕ
ended_line text = text ++ ascii.line_feed ∷ []

-- a tag pair on a line of its own: the opening bracket, the name, a space, the value in quotes, the closing bracket
abbrev pub tag_line : List ℕ → List ℕ → List ℕ
tag_line name value =
    ascii.open_bracket ∷ (name ++ (ascii.blank ∷ ascii.quote ∷
    (value ++ (ascii.quote ∷ ascii.close_bracket ∷ ascii.line_feed ∷ []))))

-- the value of the Deal tag
abbrev pub deal_value : Option Deal → List ℕ
deal_value (Some deal) = deal_text deal
deal_value None = codes "?"

-- the denominations in the order of the rows
abbrev pub denominations : List Trump
denominations = trump.Nt ∷ trump.Suit Spades ∷ trump.Suit Hearts ∷ trump.Suit Diamonds ∷ trump.Suit Clubs ∷ []

-- the declarers in the order of the rows
abbrev pub declarers : List Seat
declarers = North ∷ South ∷ East ∷ West ∷ []

-- the entries of a declarer
abbrev pub entries_of : Seat → List (Seat × Trump)
entries_of declarer = map (λ denomination. (declarer, denomination)) denominations

-- the twenty entries of a table: by declarer, and within that by denomination
abbrev pub entries : List (Seat × Trump)
entries = flat_map entries_of declarers

-- a text right in two places
abbrev pub right_in_two : List ℕ → List ℕ
right_in_two text = if nat_lt (length text) 2 then ascii.blank ∷ text else text

-- a row: the declarer, the denomination and the result
unfoldable pub row_text : Seat → Trump → ℕ → List ℕ
row_text declarer denomination tricks =
    (seat_letter declarer ++ (ascii.blank ∷ []))
    ++ (right_in_two (trump_letters denomination) ++ (ascii.blank ∷ right_in_two (decimal tricks)))

-- the row of an entry that has a result, with the end of its line
abbrev pub result_row : List ℕ → Seat → Trump → Option ℕ → List ℕ
result_row end declarer denomination (Some tricks) = row_text declarer denomination tricks ++ end
result_row end declarer denomination None = []

abbrev pub entry_row : List ℕ → Results → Seat × Trump → List ℕ
entry_row end results entry = result_row end entry.0 entry.1 (results entry.0 entry.1)

-- the rows of a board
unfoldable pub rows_text : List ℕ → Results → List ℕ
rows_text end results = flat_map (entry_row end results) entries

-- how many of these entries have a result
abbrev pub published_among : Results → List (Seat × Trump) → ℕ
published_among results some = count_by (λ entry. is_some (results entry.0 entry.1)) some

-- how many of the twenty
unfoldable pub published_count : Results → ℕ
published_count results = published_among results entries

unfoldable pub is_complete : Results → Bool
is_complete results = published_count results == 20

-- the heading of a complete table
unfoldable pub table_tag : List ℕ
table_tag =
    codes "[OptimumResultTable " ++ (ascii.quote ∷ codes "Declarer;Denomination")
    ++ (ascii.backslash ∷ codes "2R;Result") ++ (ascii.backslash ∷ codes "2R")
    ++ (ascii.quote ∷ ascii.close_bracket ∷ [])

-- what stands in place of an incomplete table
unfoldable pub incomplete_text : ℕ → List ℕ
incomplete_text published = codes "; table incomplete: " ++ (decimal published ++ codes " of 20")

-- the table of a board, each of its lines with this end
unfoldable pub table_text : List ℕ → Results → List ℕ
table_text end results =
    if is_complete results then (table_tag ++ end) ++ rows_text end results
    else incomplete_text (published_count results) ++ end

-- the par of a board, if it is printed, and its table, each line with this end
unfoldable pub section_text : List ℕ → Printed → List ℕ
section_text end printed = par_text end printed.par ++ table_text end printed.results

-- one board: its name, its deal, the conditions of its par, its par and its table, and an empty line
unfoldable pub board_text : Board → Printed → List ℕ
board_text board printed =
    tag_line (codes "Board") board.name
    ++ (tag_line (codes "Deal") (deal_value board.deal)
    ++ (conditions_text printed.par ++ (section_text line_feed printed ++ (ascii.line_feed ∷ []))))

-- each board with what is printed of it, found by its place
abbrev pub numbered_text : (ℕ → Printed) → ℕ × Board → List ℕ
numbered_text printed numbered = board_text numbered.1 (printed numbered.0)

-- the whole text
unfoldable pub tables_text : List Board → (ℕ → Printed) → List ℕ
tables_text boards printed =
    ended_line (codes "% PBN 2.1") ++ flat_map (numbered_text printed) (enumerate_from 0 boards)

-- how many boards have a complete table
unfoldable pub complete_count : List Board → (ℕ → Printed) → ℕ
complete_count boards printed =
    count_by (λ numbered. is_complete (printed numbered.0).results) (enumerate_from 0 boards)
