-- The text of the opening leads of boards: below each board's tags a row for each contract whose leads are known.
use Rattle.std.specs.Prelude.{ℕ, ◌-◌, List, [], ◌∷◌, ◌++◌, codes, count_by, sum_by, decimal, nat_lt}
use Rattle.std.specs.Prelude.{Option, None, Some, Ok, Err, if◌then◌else◌}
use Rattle.std.specs.List.{flat_map, enumerate_from}
use Rattle.cards.specs.declared.seats.Seat.{Seat}
use Rattle.cards.specs.declared.suits.Trump.{Trump}
use Rattle.cards.specs.Pack.{trump_letters}
use Rattle.cards.specs.Seats.{seat_letter}
use Rattle.cards.specs.Deal.{Deal}
use Rattle.pbn_deals.specs.declared.boards.Board.{Board}
use Rattle.tables.specs.TablesText.{declarers, denominations, right_in_two, tag_line, deal_value, ended_line}
use Rattle.card_values.specs.declared.values.CardValue.{CardValue}
use Rattle.card_values.specs.Texts.{groups_text}
use Rattle.opening_leads.specs.Leads.{LeadRow, Leads, is_counted}
use Rattle.opening_leads.specs.declared.rows.Counted.{Counted}
use Rattle.opening_leads.specs.declared.rows.Counted.TheVariants.{Known}
use Rattle.cards.specs.Bytes as ascii

-- ---- rows
-- a row: the contract, and the leads with the tricks of the defenders, the most first: `N NT  5 HK HQ  4 S3 C8`
unfoldable pub row_text : Seat → Trump → List CardValue → List ℕ
row_text declarer denomination values =
    seat_letter declarer ++ (ascii.blank ∷ right_in_two (trump_letters denomination)
    ++ (groups_text values ++ codes "\n"))

abbrev pub known_row : Seat → Trump → LeadRow → List ℕ
known_row declarer denomination (Err lack) = []
known_row declarer denomination (Ok values) = row_text declarer denomination values

abbrev pub row_of : Leads → Seat → Trump → List ℕ
row_of leads declarer denomination = known_row declarer denomination (leads declarer denomination)

-- the rows of a declarer, by denomination
unfoldable pub declarer_rows : Leads → Seat → List ℕ
declarer_rows leads declarer = flat_map (row_of leads declarer) denominations

-- the rows of a board, by declarer
unfoldable pub rows_text : Leads → List ℕ
rows_text leads = flat_map (declarer_rows leads) declarers

-- ---- rows that are missing
-- how many rows of a declarer are counted
unfoldable pub counted_of : Counted → Leads → Seat → ℕ
counted_of counted leads declarer =
    count_by (λ denomination. is_counted counted (leads declarer denomination)) denominations

-- how many of the twenty rows of a board
unfoldable pub row_count : Counted → Leads → ℕ
row_count counted leads = sum_by (counted_of counted leads) declarers

-- how many of them are known
abbrev pub known_count : Leads → ℕ
known_count leads = row_count Known leads

-- how many rows are known, in a line
unfoldable pub known_text : ℕ → List ℕ
known_text known = codes "; leads incomplete: " ++ (decimal known ++ codes " of 20\n")

-- the line that follows the rows if some are missing
abbrev pub incomplete_text : ℕ → List ℕ
incomplete_text known = if nat_lt known 20 then known_text known else []

-- how many rows are missing, if the board has a deal
abbrev pub missing_of : Option Deal → Leads → ℕ
missing_of None leads = 0
missing_of (Some deal) leads = 20 - known_count leads

-- how many rows of all boards are missing
unfoldable pub missing_count : List Board → (ℕ → Leads) → ℕ
missing_count boards leads =
    sum_by (λ numbered. missing_of numbered.1.deal (leads numbered.0)) (enumerate_from 0 boards)

-- how many rows are counted, if the board has a deal
abbrev pub counted_on : Counted → Option Deal → Leads → ℕ
counted_on counted None leads = 0
counted_on counted (Some deal) leads = row_count counted leads

-- how many rows of all boards are counted
unfoldable pub counted_rows : Counted → List Board → (ℕ → Leads) → ℕ
counted_rows counted boards leads =
    sum_by (λ numbered. counted_on counted numbered.1.deal (leads numbered.0)) (enumerate_from 0 boards)

-- ---- boards
-- the heading of the rows
unfoldable pub leads_tag : List ℕ
leads_tag = tag_line (codes "OpeningLeads") (codes "Declarer;Denomination" ++ (ascii.backslash ∷ codes "2R;Leads"))

-- the rows of a board below their heading
unfoldable pub headed_text : Leads → List ℕ
headed_text leads = leads_tag ++ (rows_text leads ++ incomplete_text (known_count leads))

-- the leads of a board, if it has a deal
abbrev pub section_text : Option Deal → Leads → List ℕ
section_text None leads = []
section_text (Some deal) leads = headed_text leads

-- a board: its name, its deal, its leads, and an empty line
unfoldable pub board_text : Board → Leads → List ℕ
board_text board leads =
    tag_line (codes "Board") board.name
    ++ (tag_line (codes "Deal") (deal_value board.deal) ++ (section_text board.deal leads ++ codes "\n"))

abbrev pub numbered_text : (ℕ → Leads) → ℕ × Board → List ℕ
numbered_text leads numbered = board_text numbered.1 (leads numbered.0)

-- the whole text
unfoldable pub leads_text : List Board → (ℕ → Leads) → List ℕ
leads_text boards leads =
    ended_line (codes "% PBN 2.1") ++ flat_map (numbered_text leads) (enumerate_from 0 boards)
