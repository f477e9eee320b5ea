-- How a sheet is read: its head, and a block for each article. Nothing here looks at how a sheet is written.
-- The page is refused if an article has no name or two. It is refused too if a footer has a table or a paragraph that
-- can't be read, or a paragraph out of place.
use Rattle.std.specs.Prelude.{ℕ, ◌+◌, ◌==◌, Bool, false, ◌&&◌, List, [], ◌∷◌, ◌++◌, map, filter, codes}
use Rattle.std.specs.Prelude.{Option, None, Some, if◌then◌else◌, bytes_eq}
use Rattle.std.specs.List.{flat_map}
use Rattle.cards.specs.declared.seats.Seat.{Seat}
use Rattle.cards.specs.declared.suits.Suit.TheVariants.{Spades, Hearts, Diamonds, Clubs}
use Rattle.cards.specs.declared.suits.Trump.{Trump}
use Rattle.cards.specs.declared.suits.Trump.TheVariants as trump
use Rattle.text_laws.specs.PageReading.{all_items, put_item, Row, row_of, seat_named, number_named, Table, rows_table}
use Rattle.text_laws.specs.PageReading.{count_table, ParSaid, Nothing, Values, DealerUnknown, VulnerabilityUnknown}
use Rattle.text_laws.specs.PageReading.{Section, section_of}
use Rattle.sheet_reading.specs.Elements.{attribute_in, Piece, pieces_of, has_class}
use Rattle.sheet_reading.specs.Elements.{end_of, before_tag, elements, text_in}
use Rattle.cards.specs.Bytes as ascii

-- ---- one element of a name
abbrev pub first_of : List (List Piece) → List Piece
first_of [] = []
first_of (element ∷ others) = element

-- the text of the only one of these elements
abbrev pub only_text : List (List Piece) → Option (List ℕ)
only_text (element ∷ []) = Some (text_in element)
only_text _ = None

abbrev pub only_text_of : List ℕ → List Piece → Option (List ℕ)
only_text_of name pieces = only_text (elements name pieces)

abbrev pub texts_of : List ℕ → List Piece → List (List ℕ)
texts_of name pieces = map text_in (elements name pieces)

-- ---- the table
abbrev pub suit_sign : ℕ → List ℕ
suit_sign last = 0xE2 ∷ 0x99 ∷ last ∷ []

-- U+2663, U+2666, U+2665 and U+2660, or NT
abbrev pub denomination_shown : List ℕ → Option Trump
denomination_shown text =
    if bytes_eq text (suit_sign 0xA3) then Some (trump.Suit Clubs) else
    (if bytes_eq text (suit_sign 0xA6) then Some (trump.Suit Diamonds) else
    (if bytes_eq text (suit_sign 0xA5) then Some (trump.Suit Hearts) else
    (if bytes_eq text (suit_sign 0xA0) then Some (trump.Suit Spades) else
    (if bytes_eq text (codes "NT") then Some trump.Nt else
    None))))

-- the columns of a table, after that of the declarers
abbrev pub columns_of : List (List ℕ) → List (Option Trump)
columns_of [] = []
columns_of (declarers ∷ columns) = map denomination_shown columns

abbrev pub tricks_of_level : Option ℕ → Option ℕ
tricks_of_level None = None
tricks_of_level (Some level) = Some (level + 6)

-- ---- a number in parentheses
abbrev pub up_to_close : List ℕ → List ℕ
up_to_close [] = []
up_to_close (byte ∷ bytes) = if byte == ascii.close_paren then [] else byte ∷ up_to_close bytes

abbrev pub parenthesized : List ℕ → List ℕ
parenthesized text = ascii.open_paren ∷ (text ++ ascii.close_paren ∷ [])

-- the parentheses hold the number, and the text is no more than that
abbrev pub number_in_parentheses : List ℕ → Option ℕ
number_in_parentheses [] = None
number_in_parentheses (byte ∷ bytes) =
    if bytes_eq (byte ∷ bytes) (parenthesized (up_to_close bytes)) then number_named (up_to_close bytes) else None

-- The number of tricks if a cell has one, in parentheses, or else those of the level that makes. A cell with both
-- numbers is refused.
abbrev pub tricks_or_level : Option (List ℕ) → List ℕ → Option ℕ
tricks_or_level None text = None
tricks_or_level (Some []) text = tricks_of_level (number_named text)
tricks_or_level (Some (byte ∷ bytes)) text =
    if bytes_eq text (byte ∷ bytes) then number_in_parentheses (byte ∷ bytes) else None

abbrev pub tricks_in : List Piece → Option ℕ
tricks_in cell = tricks_or_level (only_text_of (codes "small") cell) (text_in cell)

-- the rows of a declarer: a number in each column
abbrev pub rows_of : Option Seat → List (Option Trump) → List (Option ℕ) → Option (List Row)
rows_of declarer [] [] = Some []
rows_of declarer (denomination ∷ columns) (tricks ∷ cells) =
    put_item (row_of declarer denomination tricks) (rows_of declarer columns cells)
rows_of declarer _ _ = None

abbrev pub seat_of : Option (List ℕ) → Option Seat
seat_of None = None
seat_of (Some text) = seat_named text

abbrev pub rows_in : List (Option Trump) → List Piece → Option (List Row)
rows_in columns line =
    rows_of (seat_of (only_text_of (codes "th") line)) columns (map tricks_in (elements (codes "td") line))

abbrev pub all_rows : Option (List (List Row)) → Option (List Row)
all_rows None = None
all_rows (Some rows) = Some (flat_map (λ some. some) rows)

-- the first line has the columns, and each other line a declarer
abbrev pub table_of_lines : List (List Piece) → Option Table
table_of_lines [] = None
table_of_lines (head ∷ lines) =
    rows_table (all_rows (all_items (map (rows_in (columns_of (texts_of (codes "th") head))) lines)))

abbrev pub table_in : List Piece → Option Table
table_in table = table_of_lines (elements (codes "tr") table)

-- ---- the number of results, if there is no table
abbrev pub count_text : List ℕ → List ℕ
count_text count = codes "Table incomplete: " ++ (count ++ codes " of 20 results are known")

-- the number stands out, and the text says no more
abbrev pub count_in_text : Option (List ℕ) → List ℕ → Option Table
count_in_text None text = None
count_in_text (Some count) text = if bytes_eq text (count_text count) then count_table (number_named count) else None

abbrev pub count_in : List Piece → Option Table
count_in paragraph = count_in_text (only_text_of (codes "b") paragraph) (text_in paragraph)

-- ---- par
abbrev pub unknown_par : List ℕ → Option ParSaid
unknown_par text =
    if bytes_eq text (codes "dealer") then Some DealerUnknown else
    (if bytes_eq text (codes "vulnerability") then Some VulnerabilityUnknown else
    None)

-- The score stands out, and the contracts are on the next line. Without that line, what isn't known stands out.
abbrev pub par_in_text : Option (List ℕ) → List (List ℕ) → List ℕ → Option ParSaid
par_in_text (Some score) (contracts ∷ []) text =
    if bytes_eq text (codes "Par " ++ (score ++ contracts)) then Some (Values score contracts) else None
par_in_text (Some unknown) [] text =
    if bytes_eq text (codes "Par unknown: no " ++ unknown) then unknown_par unknown else None
par_in_text _ _ text = None

abbrev pub par_in : List Piece → Option ParSaid
par_in paragraph =
    par_in_text (only_text_of (codes "b") paragraph) (texts_of (codes "br") paragraph) (text_in paragraph)

-- at most one paragraph, which is that of par
abbrev pub only_par : List (List Piece) → Option ParSaid
only_par [] = Some Nothing
only_par (paragraph ∷ []) = par_in paragraph
only_par _ = None

-- ---- a section: what is said of par, and a table
abbrev pub section_with : Option ParSaid → Option Table → Option Section
section_with None table = None
section_with (Some par) table = section_of par table

-- A table, or else a paragraph with the number of results, and then at most the paragraph of par. The lists are the
-- tables, the paragraphs that begin before the end of a table, and all paragraphs.
abbrev pub section_of_parts : List (List Piece) → List (List Piece) → List (List Piece) → Option Section
section_of_parts (table ∷ []) [] paragraphs = section_with (only_par paragraphs) (table_in table)
section_of_parts [] before (paragraph ∷ paragraphs) = section_with (only_par paragraphs) (count_in paragraph)
section_of_parts _ _ _ = None

abbrev pub section_in : List Piece → Option Section
section_in footer =
    section_of_parts (elements (codes "table") footer)
    (elements (codes "p") (before_tag (end_of (codes "table")) footer)) (elements (codes "p") footer)

-- ---- a compass: its seats, each with the marks of the dealer and of a vulnerable seat, if it has them
pub record Corner : Type 0 where
  pub seat : List ℕ
  pub deals : Bool
  pub exposed : Bool

abbrev pub corner_in : List Piece → List Corner
corner_in [] = []
corner_in (span ∷ pieces) =
    record {
      seat = text_in (span ∷ pieces);
      deals = has_class (codes "deals") span;
      exposed = has_class (codes "exposed") span;
    } ∷ []

abbrev pub corners_in : List Piece → List Corner
corners_in compass = flat_map corner_in (elements (codes "span") compass)

abbrev pub is_of_class : List ℕ → List Piece → Bool
is_of_class name [] = false
is_of_class name (piece ∷ pieces) = has_class name piece

-- ---- a block: its name, who deals and who is vulnerable, in words and round the compass, the hands, and its section,
-- if it has one
pub record Block : Type 0 where
  pub name : List ℕ
  pub facts : List (List ℕ)
  pub compass : List Corner
  pub hands : List (List (List ℕ))
  pub section : Option Section

-- the paragraphs of the first division
abbrev pub facts_in : List Piece → List (List ℕ)
facts_in article = texts_of (codes "p") (first_of (elements (codes "div") article))

-- the seats of each compass
abbrev pub compass_in : List Piece → List Corner
compass_in article = flat_map corners_in (filter (is_of_class (codes "compass")) (elements (codes "div") article))

-- of each list of a hand its lines, of which the first has the seat's letter
abbrev pub hands_in : List Piece → List (List (List ℕ))
hands_in article = map (texts_of (codes "li")) (elements (codes "ul") article)

abbrev pub block_with : List Piece → Option (List ℕ) → Option (Option Section) → Option Block
block_with article (Some name) (Some section) =
    Some (record {
      name = name;
      facts = facts_in article;
      compass = compass_in article;
      hands = hands_in article;
      section = section;
    })
block_with article _ _ = None

-- a section that is there has to be read
abbrev pub whole_section : Option Section → Option (Option Section)
whole_section None = None
whole_section (Some section) = Some (Some section)

abbrev pub only_section : List (List Piece) → Option (Option Section)
only_section [] = Some None
only_section (footer ∷ []) = whole_section (section_in footer)
only_section _ = None

abbrev pub block_in : List Piece → Option Block
block_in article =
    block_with article (only_text_of (codes "h2") article) (only_section (elements (codes "footer") article))

-- ---- the policies of a page (Content Security Policy Level 3, 3.3)
abbrev pub is_policy : Option (List ℕ) → Bool
is_policy None = false
is_policy (Some header) = bytes_eq header (codes "Content-Security-Policy")

abbrev pub said_or_nothing : Option (List ℕ) → List ℕ
said_or_nothing None = []
said_or_nothing (Some text) = text

abbrev pub policy_in : Piece → List (List ℕ)
policy_in piece =
    if bytes_eq piece.name (codes "meta") && is_policy (attribute_in (codes "http-equiv") piece.tag)
    then said_or_nothing (attribute_in (codes "content") piece.tag) ∷ []
    else []

-- those before the first style
abbrev pub policies_in : List Piece → List (List ℕ)
policies_in pieces = flat_map policy_in (before_tag (codes "style") pieces)

-- ---- a page: its title, the paragraphs of its first header, its policies and its articles
pub record Sheet : Type 0 where
  pub title : List ℕ
  pub notes : List (List ℕ)
  pub policies : List (List ℕ)
  pub blocks : List Block

abbrev pub notes_in : List Piece → List (List ℕ)
notes_in pieces = texts_of (codes "p") (first_of (elements (codes "header") pieces))

abbrev pub sheet_with : List Piece → Option (List ℕ) → Option (List Block) → Option Sheet
sheet_with pieces (Some title) (Some blocks) =
    Some (record { title = title; notes = notes_in pieces; policies = policies_in pieces; blocks = blocks })
sheet_with pieces _ _ = None

abbrev pub sheet_of : List Piece → Option Sheet
sheet_of pieces =
    sheet_with pieces (only_text_of (codes "title") pieces)
    (all_items (map block_in (elements (codes "article") pieces)))

abbrev pub sheet_in : List ℕ → Option Sheet
sheet_in page = sheet_of (pieces_of page)
