-- The table of a play ends outside of its tags, part by part.
use Rattle.std.proofs.Common.{◌≡◌, ℕ, ◌+◌, ◌*◌, Bool, true, cond, List, [], ◌∷◌, drop, Option, None, Some, refl}
use Rattle.std.specs.Prelude.{slice_get, nat_eq, decimal}
use Rattle.std.specs.List.{flat_map, range_with_len}
use Rattle.cards.specs.declared.seats.Seat.{Seat}
use Rattle.cards.specs.declared.seats.Seat.TheVariants.{North, East, South, West}
use Rattle.cards.specs.declared.suits.Suit.{Suit}
use Rattle.cards.specs.declared.suits.Suit.TheVariants.{Spades, Hearts, Diamonds, Clubs}
use Rattle.cards.specs.declared.suits.Trump.{Trump}
use Rattle.cards.specs.declared.pack.Card.{Card}
use Rattle.cards.specs.Seats.{is_same_seat}
use Rattle.html.specs.PlainTemplates.{is_template}
use Rattle.sheets.specs.declared.templates.TheConstants as sheet
use Rattle.sheets.specs.Facts.{with_value}
use Rattle.sheets.specs.HandText.{rank_shown}
use Rattle.sheet_reading.proofs.PlainTemplates as sheet_plain
use Rattle.sheet_reading.proofs.SameMarkup.{SameMarkup, then, same-text, same-nothing, same-template, same-choice}
use Rattle.play_pages.specs.declared.lines.CardLine.{CardLine}
use Rattle.play_pages.specs.declared.lines.PlayLines.{PlayLines}
use Rattle.play_pages.specs.Counts.{known_or_none}
use Rattle.play_pages.specs.Texts.{is_mistake, number_text, total_of}
use Rattle.play_sheets.specs.declared.templates.TheConstants as template
use Rattle.play_sheets.specs.Cells.{with_number, suit_template, card_text, losing_text, line_text, winning_text, won_text, lead_text, marked_text}
use Rattle.play_sheets.specs.Tricks.{trick_winner, number_after, is_winner, seat_text, line_or_nothing, place_text, cell_text, cells_text, row_text}
use Rattle.play_sheets.specs.Tricks.{trick_count, row_at, rows_text, total_text, totals_text, table_text}
use Rattle.play_sheet_laws.proofs.PlainTemplates as plain

-- a text that ends outside of its tags has the markup that it has
abbrev pub Ends : List ℕ → Type 0
Ends text = SameMarkup text text

pub same-value : (text : List ℕ) → is_template text ≡ true → (value other : List ℕ) → SameMarkup (with_value text value) (with_value text other)
same-value text h value other = same-template text h (λ place. value) (λ place. other)

pub ends-value : (text : List ℕ) → is_template text ≡ true → (value : List ℕ) → Ends (with_value text value)
ends-value text h value = same-value text h value value

pub ends-choice : (first second : List ℕ) (b : Bool) → Ends first → Ends second → SameMarkup (cond b first second) (cond b first second)
ends-choice first second b h k = same-choice b b refl (λ _ _. h) k

-- ---- a card
pub suit-plain : (suit : Suit) → is_template (suit_template suit) ≡ true
suit-plain Spades = plain.spade-plain
suit-plain Hearts = plain.heart-plain
suit-plain Diamonds = plain.diamond-plain
suit-plain Clubs = plain.club-plain

pub ends-card : (card : Card) → Ends (card_text card)
ends-card card = ends-value (suit_template card.suit) (suit-plain card.suit) (rank_shown card.rank)

ends-losing : (card : Card) (lost : ℕ) → Ends (losing_text card lost)
unfolding losing_text
ends-losing card lost =
    then (same-text template.LOSES.now plain.loses-ends)
    (then (ends-card card) (ends-value template.LOSS.now plain.loss-plain (decimal lost)))

ends-line : (line : CardLine) → Ends (line_text line)
ends-line line =
    ends-choice (losing_text line.card (known_or_none line.lost)) (card_text line.card) (is_mistake line)
    (ends-losing line.card (known_or_none line.lost)) (ends-card line.card)

ends-winning : (line : CardLine) → Ends (winning_text line)
unfolding winning_text
ends-winning line =
    then (same-text template.WINS.now plain.wins-ends) (then (ends-line line) (same-text template.WINS_END.now plain.wins-end-ends))

ends-won : (wins : Bool) (line : CardLine) → Ends (won_text wins line)
ends-won wins line = ends-choice (winning_text line) (line_text line) wins (ends-winning line) (ends-line line)

ends-lead : (leads : Bool) → Ends (lead_text leads)
ends-lead leads = ends-choice template.LEADS.now [] leads (same-text template.LEADS.now plain.leads-ends) same-nothing

ends-marked : (leads wins : Bool) (line : CardLine) → Ends (marked_text leads wins line)
unfolding marked_text
ends-marked leads wins line = then (ends-lead leads) (ends-won wins line)

-- ---- a cell
ends-seat : (seat : Seat) (winner : Option Seat) (leads : Bool) (line : CardLine) → Ends (seat_text seat winner leads line)
ends-seat seat winner leads line =
    ends-choice (marked_text leads (is_winner winner seat) line) [] (is_same_seat line.seat seat)
    (ends-marked leads (is_winner winner seat) line) same-nothing

ends-line-or : (seat : Seat) (winner : Option Seat) (leads : Bool) (line : Option CardLine) → Ends (line_or_nothing seat winner leads line)
ends-line-or seat winner leads None = same-nothing
ends-line-or seat winner leads (Some line) = ends-seat seat winner leads line

ends-place : (seat : Seat) (winner : Option Seat) (trick : List CardLine) (place : ℕ) → Ends (place_text seat winner trick place)
ends-place seat winner trick place = ends-line-or seat winner (nat_eq place 0) (slice_get trick place)

ends-cell : (winner : Option Seat) (trick : List CardLine) (seat : Seat) → Ends (cell_text winner trick seat)
unfolding cell_text
ends-cell winner trick seat =
    then (same-text template.CELL.now plain.cell-ends)
    (then (ends-place seat winner trick 0) (then (ends-place seat winner trick 1)
    (then (ends-place seat winner trick 2) (then (ends-place seat winner trick 3)
    (same-text template.CELL_END.now plain.cell-end-ends)))))

-- ---- a row
ends-cells : (winner : Option Seat) (trick : List CardLine) → Ends (cells_text winner trick)
unfolding cells_text
ends-cells winner trick =
    then (ends-cell winner trick West) (then (ends-cell winner trick North)
    (then (ends-cell winner trick East) (ends-cell winner trick South)))

ends-number : (number : Option ℕ) → Ends (with_number template.NUMBER.now number)
ends-number number = ends-value template.NUMBER.now plain.number-plain (number_text number)

ends-row : (trump : Trump) (end : Option ℕ) (trick : List CardLine) (number : ℕ) → Ends (row_text trump end trick number)
unfolding row_text
ends-row trump end trick number =
    then (ends-value template.ROW.now plain.row-plain (decimal number))
    (then (ends-cells (trick_winner trump trick) trick)
    (then (ends-number (number_after end trick)) (same-text sheet.ROW_END.now sheet_plain.row-end-ends)))

-- ---- the table
ends-all : (text_of : ℕ → List ℕ) → ((n : ℕ) → Ends (text_of n)) → (ns : List ℕ) → Ends (flat_map text_of ns)
ends-all text_of h [] = same-nothing
ends-all text_of h (n ∷ ns) = then (h n) (ends-all text_of h ns)

ends-rows : (trump : Trump) (end : Option ℕ) (lines : List CardLine) → Ends (rows_text trump end lines)
unfolding rows_text
ends-rows trump end lines =
    ends-all (row_at trump end lines) (λ place. ends-row trump end (drop (4 * place) lines) (place + 1)) (range_with_len 0 (trick_count lines))

ends-total : (lines : List CardLine) (seat : Seat) → Ends (total_text lines seat)
ends-total lines seat = ends-number (total_of seat lines)

ends-totals : (lines : List CardLine) → Ends (totals_text lines)
unfolding totals_text
ends-totals lines =
    then (same-text template.TOTALS.now plain.totals-ends)
    (then (ends-total lines West) (then (ends-total lines North) (then (ends-total lines East)
    (then (ends-total lines South) (same-text template.TABLE_END.now plain.table-end-ends)))))

pub ends-table : (trump : Trump) (lines : PlayLines) → Ends (table_text trump lines)
unfolding table_text
ends-table trump lines =
    then (ends-value template.TABLE.now plain.table-plain (number_text lines.start))
    (then (ends-rows trump lines.end lines.lines.items) (ends-totals lines.lines.items))
