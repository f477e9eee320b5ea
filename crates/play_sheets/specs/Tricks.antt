-- The table of a play: a row for each trick, with a cell for each seat, and declarer's number after it.
use Rattle.std.specs.Prelude.{ℕ, ◌+◌, ◌*◌, ◌/◌, Bool, false, List, [], ◌∷◌, ◌++◌, drop, length, slice_get, nat_eq}
use Rattle.std.specs.Prelude.{Option, None, Some, decimal, flat_map, if◌then◌else◌}
use Rattle.std.specs.List.{range_with_len}
use Rattle.cards.specs.declared.seats.Seat.{Seat}
use Rattle.cards.specs.declared.seats.Seat.TheVariants.{North, East, South, West}
use Rattle.cards.specs.declared.suits.Trump.{Trump}
use Rattle.cards.specs.Seats.{is_same_seat}
use Rattle.play_rules.specs.History.{trick_made}
use Rattle.play_rules.specs.Winners.{winner_of}
use Rattle.sheets.specs.Facts.{with_value}
use Rattle.sheets.specs.declared.templates.TheConstants.{ROW_END}
use Rattle.play_pages.specs.declared.lines.CardLine.{CardLine}
use Rattle.play_pages.specs.declared.lines.PlayLines.{PlayLines}
use Rattle.play_pages.specs.Texts.{total_of}
use Rattle.play_sheets.specs.declared.templates.TheConstants.{TABLE, ROW, CELL, CELL_END, NUMBER, TOTALS, TABLE_END}
use Rattle.play_sheets.specs.Cells.{with_number, marked_text}

-- ---- a trick, by the lines from its first card on
-- the seat that wins it, if it has four cards (Law 44E and 44F)
abbrev pub trick_winner : Trump → List CardLine → Option Seat
trick_winner trump [] = None
trick_winner trump (a ∷ []) = None
trick_winner trump (a ∷ b ∷ []) = None
trick_winner trump (a ∷ b ∷ c ∷ []) = None
trick_winner trump (a ∷ b ∷ c ∷ d ∷ others) = Some (winner_of trump a.seat (trick_made a.card b.card c.card d.card))

-- declarer's number after its last card, if this is the one after the play's last card
abbrev pub number_after : Option ℕ → List CardLine → Option ℕ
number_after end [] = end
number_after end (a ∷ []) = end
number_after end (a ∷ b ∷ []) = end
number_after end (a ∷ b ∷ c ∷ []) = end
number_after end (a ∷ b ∷ c ∷ d ∷ others) = d.after

abbrev pub is_winner : Option Seat → Seat → Bool
is_winner None seat = false
is_winner (Some winner) seat = is_same_seat winner seat

-- ---- a cell: the card that the seat played to the trick, if it did
-- the card of this line, if the seat played it
abbrev pub seat_text : Seat → Option Seat → Bool → CardLine → List ℕ
seat_text seat winner leads line =
    if is_same_seat line.seat seat then marked_text leads (is_winner winner seat) line else []

abbrev pub line_or_nothing : Seat → Option Seat → Bool → Option CardLine → List ℕ
line_or_nothing seat winner leads None = []
line_or_nothing seat winner leads (Some line) = seat_text seat winner leads line

-- the card in this place of the trick, if the seat played it
abbrev pub place_text : Seat → Option Seat → List CardLine → ℕ → List ℕ
place_text seat winner trick place = line_or_nothing seat winner (nat_eq place 0) (slice_get trick place)

unfoldable pub cell_text : Option Seat → List CardLine → Seat → List ℕ
cell_text winner trick seat =
    CELL.now
    ++ (place_text seat winner trick 0
    ++ (place_text seat winner trick 1
    ++ (place_text seat winner trick 2 ++ (place_text seat winner trick 3 ++ CELL_END.now))))

-- ---- a row: the number of the trick, its cards by seat, and declarer's number after it
unfoldable pub cells_text : Option Seat → List CardLine → List ℕ
cells_text winner trick =
    cell_text winner trick West
    ++ (cell_text winner trick North ++ (cell_text winner trick East ++ cell_text winner trick South))

unfoldable pub row_text : Trump → Option ℕ → List CardLine → ℕ → List ℕ
row_text trump end trick number =
    with_value ROW.now (decimal number)
    ++ (cells_text (trick_winner trump trick) trick ++ (with_number NUMBER.now (number_after end trick) ++ ROW_END.now))

-- ---- the table
-- how many tricks the lines are of; the last may have fewer than four cards
abbrev pub trick_count : List CardLine → ℕ
trick_count lines = (length lines + 3) / 4

-- the row of a trick, by its place from 0
abbrev pub row_at : Trump → Option ℕ → List CardLine → ℕ → List ℕ
row_at trump end lines place = row_text trump end (drop (4 * place) lines) (place + 1)

unfoldable pub rows_text : Trump → Option ℕ → List CardLine → List ℕ
rows_text trump end lines = flat_map (row_at trump end lines) (range_with_len 0 (trick_count lines))

-- what a seat loses in all
abbrev pub total_text : List CardLine → Seat → List ℕ
total_text lines seat = with_number NUMBER.now (total_of seat lines)

unfoldable pub totals_text : List CardLine → List ℕ
totals_text lines =
    TOTALS.now
    ++ (total_text lines West
    ++ (total_text lines North ++ (total_text lines East ++ (total_text lines South ++ TABLE_END.now))))

unfoldable pub table_text : Trump → PlayLines → List ℕ
table_text trump lines =
    with_number TABLE.now lines.start
    ++ (rows_text trump lines.end lines.lines.items ++ totals_text lines.lines.items)
