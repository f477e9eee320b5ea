-- What a sheet shows of a board's results: a row a declarer, or in words how many are known; and its par.
use Rattle.std.specs.Prelude.{ℕ, List, [], ◌∷◌, ◌++◌, Option, None, Some, if◌then◌else◌}
use Rattle.std.specs.List.{flat_map}
use Rattle.std.specs.Fmt.{decimal}
use Rattle.cards.specs.declared.seats.Seat.{Seat}
use Rattle.cards.specs.declared.seats.Seat.TheVariants.{North, East, South, West}
use Rattle.cards.specs.declared.suits.Suit.TheVariants.{Spades, Hearts, Diamonds, Clubs}
use Rattle.cards.specs.declared.suits.Trump.{Trump}
use Rattle.cards.specs.declared.suits.Trump.TheVariants as trump
use Rattle.cards.specs.Seats.{seat_letter}
use Rattle.html.specs.Templates.{filled}
use Rattle.tables.specs.TablesText.{Results, published_count, is_complete}
use Rattle.sheets.specs.declared.templates.TheConstants.{TABLE, ROW, CELL, ROW_END, TABLE_END, INCOMPLETE}
use Rattle.sheets.specs.CellText.{cell_value}
use Rattle.sheets.specs.Facts.{with_value}

-- the denominations in the order of the columns
abbrev pub columns : List Trump
columns = trump.Suit Clubs ∷ trump.Suit Diamonds ∷ trump.Suit Hearts ∷ trump.Suit Spades ∷ trump.Nt ∷ []

-- the cell of a result, if it is known
abbrev pub cell_text : Option ℕ → List ℕ
cell_text None = []
cell_text (Some tricks) = filled (cell_value tricks) CELL.now

abbrev pub entry_text : Results → Seat → Trump → List ℕ
entry_text results declarer denomination = cell_text (results declarer denomination)

-- the cells of a declarer
unfoldable pub cells_text : Results → Seat → List ℕ
cells_text results declarer = flat_map (entry_text results declarer) columns

unfoldable pub row_text : Results → Seat → List ℕ
row_text results declarer =
    with_value ROW.now (seat_letter declarer) ++ (cells_text results declarer ++ ROW_END.now)

-- the rows: North, South, East, West
unfoldable pub rows_text : Results → List ℕ
rows_text results =
    row_text results North ++ (row_text results South ++ (row_text results East ++ row_text results West))

unfoldable pub complete_text : Results → List ℕ
complete_text results = TABLE.now ++ (rows_text results ++ TABLE_END.now)

-- the table, or how many of the twenty are known
abbrev pub results_text : Results → List ℕ
results_text results =
    if is_complete results then complete_text results
    else with_value INCOMPLETE.now (decimal (published_count results))
