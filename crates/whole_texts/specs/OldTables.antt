-- What is dropped of a game that has a Deal tag: the tables in it, and the line at its end that says how many results
-- were known.
use Rattle.std.specs.Prelude.{ℕ, ◌&&◌, ◌||◌, Bool, true, false, List, [], ◌∷◌, codes, bytes_eq, if◌then◌else◌}
use Rattle.std.specs.List.{list_any, list_all, range_with_len}
use Rattle.pbn_deals.specs.Tags.{is_same_name, is_deal}
use Rattle.pbn_deals.specs.Pieces.{Piece, Space, Comment, Pair, Data, NoPair, Kind, Gap, Escaped, OfGame, Line}
use Rattle.tables.specs.declared.results.Renews.{Renews}
use Rattle.tables.specs.declared.results.Renews.TheVariants.{Tables, TablesAndPars}
use Rattle.tables.specs.TablesText.{incomplete_text}

-- ---- tables
-- the name of a table's tag pair, in any case
abbrev pub is_table : List ℕ → Bool
is_table = is_same_name (codes "OPTIMUMRESULTTABLE")

-- the names of the tag pairs of a par
abbrev pub is_par_tag : List ℕ → Bool
is_par_tag name = is_same_name (codes "OPTIMUMSCORE") name || is_same_name (codes "PARCONTRACT") name

-- whether pars are written anew too
abbrev pub renews_pars : Renews → Bool
renews_pars Tables = false
renews_pars TablesAndPars = true

-- the names of the tag pairs that are dropped
abbrev pub is_old : Renews → List ℕ → Bool
is_old old name = is_table name || (is_par_tag name && renews_pars old)

-- What is left of a line's pieces. A table's tag pair is dropped, and the section data after it up to the next tag
-- pair. The flag says that there is a table before the pieces.
abbrev pub left_pieces : Renews → Bool → List Piece → List Piece
left_pieces old in_table [] = []
left_pieces old in_table (Space byte ∷ pieces) = Space byte ∷ left_pieces old in_table pieces
left_pieces old in_table (Comment bytes ∷ pieces) = Comment bytes ∷ left_pieces old in_table pieces
left_pieces old in_table (Pair name value bytes ∷ pieces) =
    if is_old old name then left_pieces old true pieces else (Pair name value bytes ∷ left_pieces old false pieces)
left_pieces old true (Data bytes ∷ pieces) = left_pieces old true pieces
left_pieces old false (Data bytes ∷ pieces) = Data bytes ∷ left_pieces old false pieces
left_pieces old in_table (NoPair bytes ∷ pieces) = NoPair bytes ∷ left_pieces old in_table pieces

-- whether section data behind the pieces is a table's
abbrev pub table_behind : Renews → Bool → List Piece → Bool
table_behind old in_table [] = in_table
table_behind old in_table (Space byte ∷ pieces) = table_behind old in_table pieces
table_behind old in_table (Comment bytes ∷ pieces) = table_behind old in_table pieces
table_behind old in_table (Pair name value bytes ∷ pieces) = table_behind old (is_old old name) pieces
table_behind old in_table (Data bytes ∷ pieces) = table_behind old in_table pieces
table_behind old in_table (NoPair bytes ∷ pieces) = table_behind old in_table pieces

-- more than blanks
abbrev pub has_more : List Piece → Bool
has_more [] = false
has_more (Space byte ∷ pieces) = has_more pieces
has_more (Comment bytes ∷ pieces) = true
has_more (Pair name value bytes ∷ pieces) = true
has_more (Data bytes ∷ pieces) = true
has_more (NoPair bytes ∷ pieces) = true

-- a line of which only blanks are left is dropped whole, with its end
abbrev pub put_left : Renews → Bool → Kind → List ℕ → List Line → List Line
put_left old in_table (Gap bytes) end lines = record { kind = Gap bytes; end = end } ∷ lines
put_left old in_table (Escaped bytes) end lines = record { kind = Escaped bytes; end = end } ∷ lines
put_left old in_table (OfGame pieces) end lines =
    if has_more (left_pieces old in_table pieces)
    then (record { kind = OfGame (left_pieces old in_table pieces); end = end } ∷ lines) else lines

abbrev pub table_behind_line : Renews → Bool → Kind → Bool
table_behind_line old in_table (Gap bytes) = in_table
table_behind_line old in_table (Escaped bytes) = in_table
table_behind_line old in_table (OfGame pieces) = table_behind old in_table pieces

abbrev pub without_tables : Renews → Bool → List Line → List Line
without_tables old in_table [] = []
without_tables old in_table (line ∷ lines) =
    put_left old in_table line.kind line.end (without_tables old (table_behind_line old in_table line.kind) lines)

-- ---- lines that tell how many results were known
-- the comment `; table incomplete: m of 20`, m below 20
abbrev pub is_count_text : List ℕ → Bool
is_count_text bytes = list_any (λ count. bytes_eq bytes (incomplete_text count)) (range_with_len 0 20)

-- a comment that says why a par isn't known
abbrev pub is_unknown_text : List ℕ → Bool
is_unknown_text bytes =
    bytes_eq bytes (codes "; par unknown: no dealer") || bytes_eq bytes (codes "; par unknown: no vulnerability")

-- the comments that go
abbrev pub is_old_comment : Renews → List ℕ → Bool
is_old_comment old bytes = is_count_text bytes || (is_unknown_text bytes && renews_pars old)

-- such a comment, and nothing else in its line
abbrev pub is_count : Renews → Kind → Bool
is_count old (OfGame (Comment bytes ∷ [])) = is_old_comment old bytes
is_count old _ = false

abbrev pub is_escaped_kind : Kind → Bool
is_escaped_kind (Gap bytes) = false
is_escaped_kind (Escaped bytes) = true
is_escaped_kind (OfGame pieces) = false

-- such lines go where they are the last of the game: escaped lines don't belong to it
abbrev pub without_counts : Renews → List Line → List Line
without_counts old [] = []
without_counts old (line ∷ lines) =
    if is_count old line.kind && list_all (λ other. is_escaped_kind other.kind) (without_counts old lines)
    then without_counts old lines else (line ∷ without_counts old lines)

-- what is left of the lines of a game
abbrev pub left_of : Renews → List Line → List Line
left_of old lines = without_counts old (without_tables old false lines)

-- ---- the Deal tag of a game
abbrev pub is_deal_pair : Piece → Bool
is_deal_pair (Space byte) = false
is_deal_pair (Comment bytes) = false
is_deal_pair (Pair name value bytes) = is_deal name
is_deal_pair (Data bytes) = false
is_deal_pair (NoPair bytes) = false

abbrev pub is_deal_kind : Kind → Bool
is_deal_kind (Gap bytes) = false
is_deal_kind (Escaped bytes) = false
is_deal_kind (OfGame pieces) = list_any is_deal_pair pieces

abbrev pub has_deal : List Line → Bool
has_deal lines = list_any (λ line. is_deal_kind line.kind) lines
