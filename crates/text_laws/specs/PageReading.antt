-- How a page of tables is read, line by line. Nothing here looks at how it is written: lines end at line feeds, blocks
-- at empty lines, words at blanks, and a tag pair is one of PBN (`Tags` of `pbn_deals`). A line out of place refuses
-- the page.
use Rattle.std.specs.Prelude.{ℕ, ◌==◌, Bool, true, false, not, ◌&&◌, List, [], ◌∷◌, ◌++◌, map, filter, codes}
use Rattle.std.specs.Prelude.{Option, None, Some, if◌then◌else◌, bytes_eq}
use Rattle.std.specs.List.{slice_split}
use Rattle.std.specs.Str.{all_ascii_digits}
use Rattle.std.specs.Str.Parse.{digits_value}
use Rattle.cards.specs.declared.seats.Seat.{Seat}
use Rattle.cards.specs.declared.seats.Seat.TheVariants.{North, East, South, West}
use Rattle.cards.specs.declared.suits.Suit.TheVariants.{Spades, Hearts, Diamonds, Clubs}
use Rattle.cards.specs.declared.suits.Trump.{Trump}
use Rattle.cards.specs.declared.suits.Trump.TheVariants as trump
use Rattle.pbn_deals.specs.DealValue.{is_word, words_of}
use Rattle.pbn_deals.specs.Tags.{Tag, tag_of}
use Rattle.cards.specs.Bytes as ascii

-- the items, where all are there
abbrev pub put_item : {A : Type 0} → Option A → Option (List A) → Option (List A)
put_item (Some item) (Some items) = Some (item ∷ items)
put_item (Some item) None = None
put_item None items = None

abbrev pub all_items : {A : Type 0} → List (Option A) → Option (List A)
all_items [] = Some []
all_items (item ∷ items) = put_item item (all_items items)

-- ---- a row: a declarer, a denomination and a number
pub record Row : Type 0 where
  pub declarer : Seat
  pub denomination : Trump
  pub tricks : ℕ

abbrev pub seat_named : List ℕ → Option Seat
seat_named word =
    if bytes_eq word (codes "N") then Some North else
    (if bytes_eq word (codes "E") then Some East else
    (if bytes_eq word (codes "S") then Some South else
    (if bytes_eq word (codes "W") then Some West else
    None)))

abbrev pub denomination_named : List ℕ → Option Trump
denomination_named word =
    if bytes_eq word (codes "NT") then Some trump.Nt else
    (if bytes_eq word (codes "S") then Some (trump.Suit Spades) else
    (if bytes_eq word (codes "H") then Some (trump.Suit Hearts) else
    (if bytes_eq word (codes "D") then Some (trump.Suit Diamonds) else
    (if bytes_eq word (codes "C") then Some (trump.Suit Clubs) else
    None))))

-- a number in decimal digits
abbrev pub number_named : List ℕ → Option ℕ
number_named word = if is_word word && all_ascii_digits word then Some (digits_value 10 word) else None

abbrev pub row_of : Option Seat → Option Trump → Option ℕ → Option Row
row_of (Some declarer) (Some denomination) (Some tricks) =
    Some (record { declarer = declarer; denomination = denomination; tricks = tricks })
row_of _ _ _ = None

abbrev pub row_of_words : List (List ℕ) → Option Row
row_of_words (declarer ∷ denomination ∷ tricks ∷ []) =
    row_of (seat_named declarer) (denomination_named denomination) (number_named tricks)
row_of_words _ = None

abbrev pub row_in : List ℕ → Option Row
row_in line = row_of_words (words_of line)

-- ---- a table: rows below their heading, or how many results there are
pub data Table : Type 0 where
  Rows : List Row → Table
  Incomplete : ℕ → Table

abbrev pub rows_table : Option (List Row) → Option Table
rows_table (Some rows) = Some (Rows rows)
rows_table None = None

abbrev pub count_table : Option ℕ → Option Table
count_table (Some count) = Some (Incomplete count)
count_table None = None

-- the words of `; table incomplete: m of 20`
abbrev pub count_of_words : List (List ℕ) → Option Table
count_of_words (mark ∷ table ∷ incomplete ∷ count ∷ out_of ∷ twenty ∷ []) =
    if bytes_eq mark (codes ";")
    && (bytes_eq table (codes "table")
    && (bytes_eq incomplete (codes "incomplete:")
    && (bytes_eq out_of (codes "of") && bytes_eq twenty (codes "20"))))
    then count_table (number_named count) else None
count_of_words _ = None

-- the value of a tag pair of this name with nothing after it
abbrev pub value_of_tag : List ℕ → Option Tag → Option (List ℕ)
value_of_tag name None = None
value_of_tag name (Some tag) = if bytes_eq tag.name name && not (is_word tag.rest) then Some tag.value else None

-- the value of the tag pair of this name that is the whole line
abbrev pub value_in : List ℕ → List ℕ → Option (List ℕ)
value_in name [] = None
value_in name (byte ∷ bytes) = if byte == ascii.open_bracket then value_of_tag name (tag_of bytes) else None

-- the columns of a table (PBN 2.1, the OptimumResultTable tag)
abbrev pub are_columns : Option (List ℕ) → Bool
are_columns None = false
are_columns (Some value) =
    bytes_eq value
    (codes "Declarer;Denomination" ++ (ascii.backslash ∷ codes "2R;Result") ++ (ascii.backslash ∷ codes "2R"))

-- a line that stands alone tells a number
abbrev pub count_alone : List ℕ → List (List ℕ) → Option Table
count_alone line [] = count_of_words (words_of line)
count_alone line (below ∷ lines) = None

abbrev pub table_in : List ℕ → List (List ℕ) → Option Table
table_in line below =
    if are_columns (value_in (codes "OptimumResultTable") line) then rows_table (all_items (map row_in below))
    else count_alone line below

-- ---- a section: what is said of par, and a table
-- nothing is said of par, or the values of its tags OptimumScore and ParContract are, or what isn't known of the board
pub data ParSaid : Type 0 where
  Nothing : ParSaid
  Values : List ℕ → List ℕ → ParSaid
  DealerUnknown : ParSaid
  VulnerabilityUnknown : ParSaid

pub record Section : Type 0 where
  pub par : ParSaid
  pub table : Table

abbrev pub section_of : ParSaid → Option Table → Option Section
section_of par None = None
section_of par (Some table) = Some (record { par = par; table = table })

-- the table in these lines
abbrev pub table_of_lines : List (List ℕ) → Option Table
table_of_lines [] = None
table_of_lines (line ∷ below) = table_in line below

-- the second value, and the table below it
abbrev pub section_of_values : List ℕ → Option (List ℕ) → List (List ℕ) → Option Section
section_of_values score None below = None
section_of_values score (Some contracts) below = section_of (Values score contracts) (table_of_lines below)

-- a first line with a score, and one that begins the table
abbrev pub section_of_score : Option (List ℕ) → List (List ℕ) → Option Section
section_of_score None lines = section_of Nothing (table_of_lines lines)
section_of_score (Some score) (line ∷ contracts ∷ below) =
    section_of_values score (value_in (codes "ParContract") contracts) below
section_of_score (Some score) _ = None

abbrev pub section_in : List (List ℕ) → Option Section
section_in [] = None
section_in (line ∷ below) =
    if bytes_eq line (codes "; par unknown: no dealer")
    then section_of DealerUnknown (table_of_lines below) else
    (if bytes_eq line (codes "; par unknown: no vulnerability")
    then section_of VulnerabilityUnknown (table_of_lines below) else
    section_of_score (value_in (codes "OptimumScore") line) (line ∷ below))

-- ---- the conditions of par: nothing, or the values of the tags Dealer and Vulnerable
pub data ConditionsSaid : Type 0 where
  Unsaid : ConditionsSaid
  Said : List ℕ → List ℕ → ConditionsSaid

-- what is below a Deal tag
pub record Lower : Type 0 where
  pub conditions : ConditionsSaid
  pub section : Section

abbrev pub lower_of : ConditionsSaid → Option Section → Option Lower
lower_of conditions None = None
lower_of conditions (Some section) = Some (record { conditions = conditions; section = section })

-- the second value, and the section below it
abbrev pub lower_of_values : List ℕ → Option (List ℕ) → List (List ℕ) → Option Lower
lower_of_values dealer None below = None
lower_of_values dealer (Some vulnerable) below = lower_of (Said dealer vulnerable) (section_in below)

-- a first line with a dealer, and one that begins the section
abbrev pub lower_of_dealer : Option (List ℕ) → List (List ℕ) → Option Lower
lower_of_dealer None lines = lower_of Unsaid (section_in lines)
lower_of_dealer (Some dealer) (line ∷ vulnerable ∷ below) =
    lower_of_values dealer (value_in (codes "Vulnerable") vulnerable) below
lower_of_dealer (Some dealer) _ = None

abbrev pub lower_in : List (List ℕ) → Option Lower
lower_in [] = None
lower_in (line ∷ below) = lower_of_dealer (value_in (codes "Dealer") line) (line ∷ below)

-- ---- a block: the value of its Board tag, the value of its Deal tag, the conditions of its par, and its section
pub record Block : Type 0 where
  pub name : List ℕ
  pub deal : List ℕ
  pub conditions : ConditionsSaid
  pub section : Section

abbrev pub block_of : Option (List ℕ) → Option (List ℕ) → Option Lower → Option Block
block_of (Some name) (Some deal) (Some lower) =
    Some (record { name = name; deal = deal; conditions = lower.conditions; section = lower.section })
block_of _ _ _ = None

abbrev pub block_in : List (List ℕ) → Option Block
block_in (board ∷ deal ∷ below) =
    block_of (value_in (codes "Board") board) (value_in (codes "Deal") deal) (lower_in below)
block_in _ = None

-- the blocks: the parts between empty lines that have a line
abbrev pub is_empty_line : List ℕ → Bool
is_empty_line line = not (is_word line)

abbrev pub has_lines : List (List ℕ) → Bool
has_lines [] = false
has_lines (line ∷ lines) = true

abbrev pub blocks_of : List (List ℕ) → List (List (List ℕ))
blocks_of lines = filter has_lines (slice_split is_empty_line lines)

-- ---- a page: its first line, and the blocks below it
abbrev pub page_in : List (List ℕ) → Option (List Block)
page_in [] = None
page_in (first ∷ lines) =
    if bytes_eq first (codes "% PBN 2.1") then all_items (map block_in (blocks_of lines)) else None
