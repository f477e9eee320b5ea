-- The pieces of each template with its values.
use Rattle.std.proofs.Common.{ℕ, Bool, true, false, List, [], ◌∷◌, ◌++◌, refl}
use Rattle.std.specs.Prelude.{codes}
use Rattle.sheet_reading.specs.Pages.{resolved}
use Rattle.html.specs.Values.{value_text}
use Rattle.html.specs.Templates.{filled}
use Rattle.html.specs.PlainTemplates.{is_template}
use Rattle.sheets.specs.declared.templates.TheConstants.{BOARD, FACTS, DEALER, VULNERABLE, COMPASS, HANDS, HAND, FOOT}
use Rattle.sheets.specs.declared.templates.TheConstants.{TABLE, ROW, CELL, ROW_END, TABLE_END, INCOMPLETE, PAR}
use Rattle.sheets.specs.declared.templates.TheConstants.{PAR_UNKNOWN, FOOT_END, BOARD_END, GROUP, END}
use Rattle.sheets.specs.Facts.{with_value, seat_template}
use Rattle.sheet_reading.specs.Elements.{Piece}
use Rattle.sheet_reading.specs.SheetReading.{suit_sign}
use Rattle.sheet_reading.proofs.Chunks.{Chunk, chunk-constant, chunk-filled}

-- a tag with these words after its name
abbrev pub piece_with : List ℕ → List ℕ → List ℕ → Piece
piece_with words name text = record { tag = 60 ∷ (name ++ (words ++ 62 ∷ [])); name = name; text = text }

abbrev pub piece : List ℕ → List ℕ → Piece
piece name text = piece_with [] name text

-- the words of an attribute
abbrev pub attribute : List ℕ → List ℕ → List ℕ
attribute name value = 32 ∷ (name ++ (61 ∷ 34 ∷ (value ++ 34 ∷ [])))

-- a tag of a class
abbrev pub of_class : List ℕ → List ℕ → List ℕ → Piece
of_class value name text = piece_with (attribute (codes "class") value) name text

abbrev pub line_feed : List ℕ
line_feed = 10 ∷ []

-- ---- a board
abbrev pub board_pieces : List ℕ → List Piece
board_pieces name = piece (codes "article") line_feed ∷ piece (codes "h2") name ∷ piece (codes "/h2") [] ∷ []

pub board-chunk : (name : List ℕ) → Chunk (with_value BOARD.now name) (board_pieces (resolved (value_text name ++ [])))
unfolding filled is_template
board-chunk name =
    chunk-filled (λ place. name) BOARD.now (board_pieces (resolved (value_text name ++ []))) refl refl refl

abbrev pub board_end : Piece
board_end = piece (codes "/article") []

pub board_end-chunk : Chunk BOARD_END.now (board_end ∷ [])
board_end-chunk = chunk-constant BOARD_END.now (board_end ∷ []) refl refl refl

-- ---- the bidding
abbrev pub facts_start : Piece
facts_start = of_class (codes "facts") (codes "div") []

pub facts-chunk : Chunk FACTS.now (facts_start ∷ [])
facts-chunk = chunk-constant FACTS.now (facts_start ∷ []) refl refl refl

abbrev pub dealer_pieces : List ℕ → List Piece
dealer_pieces dealer =
    piece (codes "p") (codes "Dealer ") ∷ piece (codes "b") dealer ∷ piece (codes "/b") [] ∷ piece (codes "/p") [] ∷ []

pub dealer-chunk : (dealer : List ℕ) → Chunk (with_value DEALER.now dealer) (dealer_pieces (resolved (value_text dealer ++ [])))
unfolding filled is_template
dealer-chunk dealer =
    chunk-filled (λ place. dealer) DEALER.now (dealer_pieces (resolved (value_text dealer ++ []))) refl refl refl

abbrev pub sides_pieces : List ℕ → List Piece
sides_pieces sides =
    piece (codes "p") (codes "Vul ") ∷ piece (codes "b") sides ∷ piece (codes "/b") [] ∷ piece (codes "/p") [] ∷ []

pub sides-chunk : (sides : List ℕ) → Chunk (with_value VULNERABLE.now sides) (sides_pieces (resolved (value_text sides ++ [])))
unfolding filled is_template
sides-chunk sides =
    chunk-filled (λ place. sides) VULNERABLE.now (sides_pieces (resolved (value_text sides ++ []))) refl refl refl

abbrev pub facts_end : Piece
facts_end = piece (codes "/div") line_feed

abbrev pub deal_tag : Piece
deal_tag = of_class (codes "deal") (codes "div") line_feed

abbrev pub compass_tag : Piece
compass_tag =
    piece_with (attribute (codes "class") (codes "compass") ++ attribute (codes "aria-hidden") (codes "true")) (codes "div") []

abbrev pub compass_start : List Piece
compass_start = deal_tag ∷ compass_tag ∷ []

pub compass-chunk : Chunk COMPASS.now (facts_end ∷ compass_start)
compass-chunk = chunk-constant COMPASS.now (facts_end ∷ compass_start) refl refl refl

-- the words of a seat's tag
abbrev pub seat_words : Bool → Bool → List ℕ
seat_words false false = []
seat_words true false = attribute (codes "class") (codes "deals")
seat_words false true = attribute (codes "class") (codes "exposed")
seat_words true true = attribute (codes "class") (codes "deals exposed")

abbrev pub seat_pieces : Bool → Bool → List ℕ → List Piece
seat_pieces deals exposed seat =
    piece_with (seat_words deals exposed) (codes "span") seat ∷ piece (codes "/span") [] ∷ []

pub seat-chunk : (deals exposed : Bool) (seat : List ℕ) →
    Chunk (with_value (seat_template deals exposed) seat) (seat_pieces deals exposed (resolved (value_text seat ++ [])))
unfolding filled is_template
seat-chunk false false seat =
    chunk-filled (λ place. seat) (seat_template false false) (seat_pieces false false (resolved (value_text seat ++ []))) refl refl refl
seat-chunk true false seat =
    chunk-filled (λ place. seat) (seat_template true false) (seat_pieces true false (resolved (value_text seat ++ []))) refl refl refl
seat-chunk false true seat =
    chunk-filled (λ place. seat) (seat_template false true) (seat_pieces false true (resolved (value_text seat ++ []))) refl refl refl
seat-chunk true true seat =
    chunk-filled (λ place. seat) (seat_template true true) (seat_pieces true true (resolved (value_text seat ++ []))) refl refl refl

abbrev pub compass_end : List Piece
compass_end = piece (codes "/div") [] ∷ []

pub compass_end-chunk : Chunk HANDS.now compass_end
compass_end-chunk = chunk-constant HANDS.now compass_end refl refl refl

-- ---- a hand
abbrev pub hand_pieces : List ℕ → List ℕ → List ℕ → List ℕ → List ℕ → List ℕ → List Piece
hand_pieces seat spades hearts diamonds clubs points =
    piece (codes "ul") line_feed
    ∷ of_class (codes "seat") (codes "li") seat ∷ piece (codes "/li") line_feed
    ∷ piece (codes "li") [] ∷ piece (codes "b") (suit_sign 0xA0) ∷ piece (codes "/b") spades ∷ piece (codes "/li") line_feed
    ∷ piece (codes "li") [] ∷ of_class (codes "red") (codes "b") (suit_sign 0xA5) ∷ piece (codes "/b") hearts ∷ piece (codes "/li") line_feed
    ∷ piece (codes "li") [] ∷ of_class (codes "red") (codes "b") (suit_sign 0xA6) ∷ piece (codes "/b") diamonds ∷ piece (codes "/li") line_feed
    ∷ piece (codes "li") [] ∷ piece (codes "b") (suit_sign 0xA3) ∷ piece (codes "/b") clubs ∷ piece (codes "/li") line_feed
    ∷ of_class (codes "points") (codes "li") points ∷ piece (codes "/li") line_feed
    ∷ piece (codes "/ul") [] ∷ []

abbrev pub value_read : (List ℕ → List ℕ) → List ℕ → List ℕ
value_read values name = resolved (value_text (values name) ++ [])

pub hand-chunk : (values : List ℕ → List ℕ) →
    Chunk (filled values HAND.now)
    (hand_pieces (value_read values (codes "seat")) (value_read values (codes "spades")) (value_read values (codes "hearts"))
    (value_read values (codes "diamonds")) (value_read values (codes "clubs")) (value_read values (codes "points")))
unfolding filled is_template
hand-chunk values =
    chunk-filled values HAND.now
    (hand_pieces (value_read values (codes "seat")) (value_read values (codes "spades")) (value_read values (codes "hearts"))
    (value_read values (codes "diamonds")) (value_read values (codes "clubs")) (value_read values (codes "points")))
    refl refl refl

-- ---- the table
abbrev pub hands_end : List Piece
hands_end = piece (codes "/div") line_feed ∷ []

abbrev pub footer_start : Piece
footer_start = piece (codes "footer") []

pub foot-chunk : Chunk FOOT.now (hands_end ++ footer_start ∷ [])
foot-chunk = chunk-constant FOOT.now (hands_end ++ footer_start ∷ []) refl refl refl

abbrev pub table_start : Piece
table_start = piece (codes "table") line_feed

-- a head of a column, or of a row
abbrev pub head_cell : List ℕ → List ℕ → Piece
head_cell scope text = piece_with (attribute (codes "scope") scope) (codes "th") text

abbrev pub red_head : List ℕ → Piece
red_head text =
    piece_with (attribute (codes "scope") (codes "col") ++ attribute (codes "class") (codes "red")) (codes "th") text

abbrev pub heading_line : List Piece
heading_line =
    piece (codes "tr") line_feed
    ∷ head_cell (codes "col") [] ∷ of_class (codes "read") (codes "span") (codes "Declarer") ∷ piece (codes "/span") []
    ∷ piece (codes "/th") line_feed
    ∷ head_cell (codes "col") (suit_sign 0xA3) ∷ piece (codes "/th") line_feed
    ∷ red_head (suit_sign 0xA6) ∷ piece (codes "/th") line_feed
    ∷ red_head (suit_sign 0xA5) ∷ piece (codes "/th") line_feed
    ∷ head_cell (codes "col") (suit_sign 0xA0) ∷ piece (codes "/th") line_feed
    ∷ head_cell (codes "col") (codes "NT") ∷ piece (codes "/th") line_feed ∷ []

abbrev pub line_end : Piece
line_end = piece (codes "/tr") []

pub table-chunk : Chunk TABLE.now (table_start ∷ (heading_line ++ line_end ∷ []))
table-chunk = chunk-constant TABLE.now (table_start ∷ (heading_line ++ line_end ∷ [])) refl refl refl

abbrev pub line_start : List ℕ → List Piece
line_start declarer = piece (codes "tr") line_feed ∷ head_cell (codes "row") declarer ∷ piece (codes "/th") [] ∷ []

pub line-chunk : (declarer : List ℕ) → Chunk (with_value ROW.now declarer) (line_start (resolved (value_text declarer ++ [])))
unfolding filled is_template
line-chunk declarer =
    chunk-filled (λ place. declarer) ROW.now (line_start (resolved (value_text declarer ++ []))) refl refl refl

abbrev pub cell_content : List ℕ → List ℕ → List Piece
cell_content level tricks = piece (codes "td") level ∷ piece (codes "small") tricks ∷ piece (codes "/small") [] ∷ []

abbrev pub cell_pieces : List ℕ → List ℕ → List Piece
cell_pieces level tricks =
    piece (codes "td") level ∷ piece (codes "small") tricks ∷ piece (codes "/small") [] ∷ piece (codes "/td") [] ∷ []

pub cell-chunk : (values : List ℕ → List ℕ) →
    Chunk (filled values CELL.now) (cell_pieces (value_read values (codes "level")) (value_read values (codes "tricks")))
unfolding filled is_template
cell-chunk values =
    chunk-filled values CELL.now (cell_pieces (value_read values (codes "level")) (value_read values (codes "tricks")))
    refl refl refl

pub line_end-chunk : Chunk ROW_END.now (line_end ∷ [])
line_end-chunk = chunk-constant ROW_END.now (line_end ∷ []) refl refl refl

abbrev pub table_end : Piece
table_end = piece (codes "/table") []

pub table_end-chunk : Chunk TABLE_END.now (table_end ∷ [])
table_end-chunk = chunk-constant TABLE_END.now (table_end ∷ []) refl refl refl

abbrev pub count_content : List ℕ → List Piece
count_content count =
    piece (codes "p") (codes "Table incomplete: ") ∷ piece (codes "b") count
    ∷ piece (codes "/b") (codes " of 20 results are known") ∷ []

abbrev pub count_pieces : List ℕ → List Piece
count_pieces count =
    piece (codes "p") (codes "Table incomplete: ") ∷ piece (codes "b") count
    ∷ piece (codes "/b") (codes " of 20 results are known") ∷ piece (codes "/p") [] ∷ []

pub count-chunk : (count : List ℕ) → Chunk (with_value INCOMPLETE.now count) (count_pieces (resolved (value_text count ++ [])))
unfolding filled is_template
count-chunk count =
    chunk-filled (λ place. count) INCOMPLETE.now (count_pieces (resolved (value_text count ++ []))) refl refl refl

-- ---- par
abbrev pub par_pieces : List ℕ → List ℕ → List Piece
par_pieces score contracts =
    piece (codes "p") (codes "Par ") ∷ piece (codes "b") score ∷ piece (codes "/b") [] ∷ piece (codes "br") contracts
    ∷ piece (codes "/p") [] ∷ []

pub par-chunk : (values : List ℕ → List ℕ) →
    Chunk (filled values PAR.now) (par_pieces (value_read values (codes "score")) (value_read values (codes "contracts")))
unfolding filled is_template
par-chunk values =
    chunk-filled values PAR.now (par_pieces (value_read values (codes "score")) (value_read values (codes "contracts")))
    refl refl refl

abbrev pub unknown_pieces : List ℕ → List Piece
unknown_pieces lacks =
    piece (codes "p") (codes "Par unknown: no ") ∷ piece (codes "b") lacks ∷ piece (codes "/b") [] ∷ piece (codes "/p") [] ∷ []

pub unknown-chunk : (lacks : List ℕ) → Chunk (with_value PAR_UNKNOWN.now lacks) (unknown_pieces (resolved (value_text lacks ++ [])))
unfolding filled is_template
unknown-chunk lacks =
    chunk-filled (λ place. lacks) PAR_UNKNOWN.now (unknown_pieces (resolved (value_text lacks ++ []))) refl refl refl

abbrev pub footer_end : Piece
footer_end = piece (codes "/footer") []

pub footer_end-chunk : Chunk FOOT_END.now (footer_end ∷ [])
footer_end-chunk = chunk-constant FOOT_END.now (footer_end ∷ []) refl refl refl

-- ---- the page
abbrev pub group_pieces : List ℕ → List ℕ → List Piece
group_pieces event section =
    piece (codes "h2") [] ∷ piece (codes "bdi") event ∷ piece (codes "/bdi") (codes " ") ∷ piece (codes "bdi") section
    ∷ piece (codes "/bdi") [] ∷ piece (codes "/h2") [] ∷ []

pub group-chunk : (values : List ℕ → List ℕ) →
    Chunk (filled values GROUP.now) (group_pieces (value_read values (codes "event")) (value_read values (codes "section")))
unfolding filled is_template
group-chunk values =
    chunk-filled values GROUP.now (group_pieces (value_read values (codes "event")) (value_read values (codes "section")))
    refl refl refl

abbrev pub page_end : List Piece
page_end = piece (codes "/main") line_feed ∷ piece (codes "/body") line_feed ∷ piece (codes "/html") line_feed ∷ []

pub page_end-chunk : Chunk END.now page_end
page_end-chunk = chunk-constant END.now page_end refl refl refl
