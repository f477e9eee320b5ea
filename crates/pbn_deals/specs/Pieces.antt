-- What stands in a text, with nothing left out: its lines and their ends, and the pieces of each line (PBN 2.1,
-- sections 2.2 to 3.2).
use Rattle.std.specs.Prelude.{◌≡◌, ℕ, ◌==◌, ◌&&◌, Bool, true, false, List, [], ◌∷◌, ◌++◌, Some, None, if◌then◌else◌}
use Rattle.std.specs.List.{slice_split, flat_map}
use Rattle.pbn_deals.specs.DealValue.{is_word}
use Rattle.pbn_deals.specs.Lines.{is_line_feed, without_mark, without_return, is_escaped, is_blank_line}
use Rattle.pbn_deals.specs.Reading.{Lacks, Meaning, EndsLine, OpensComment, OpensText, OpensTag, IsSpace, IsData}
use Rattle.pbn_deals.specs.Reading.{meaning_of}
use Rattle.pbn_deals.specs.Tags.{Tag, tag_of}
use Rattle.cards.specs.Bytes as ascii

-- ---- the pieces of a line
pub data Piece : Type 0 where
  -- a blank before all section data
  Space : ℕ → Piece
  -- a comment with its signs, or what of it stands in this line
  Comment : List ℕ → Piece
  -- a tag pair: its name, its value, and all its bytes
  Pair : List ℕ → List ℕ → List ℕ → Piece
  -- a byte of section data, or a quoted text in it
  Data : List ℕ → Piece
  -- a bracket where a tag pair may stand, which begins none, and what stands behind it
  NoPair : List ℕ → Piece

abbrev pub bytes_of : Piece → List ℕ
bytes_of (Space byte) = byte ∷ []
bytes_of (Comment bytes) = bytes
bytes_of (Pair name value bytes) = bytes
bytes_of (Data bytes) = bytes
bytes_of (NoPair bytes) = bytes

-- whether a byte of this meaning is section data: the flag tells that such data stands before it
abbrev pub is_data : Bool → Meaning → Bool
is_data in_data IsData = true
is_data in_data IsSpace = in_data
is_data in_data OpensTag = in_data
is_data in_data EndsLine = false
is_data in_data OpensComment = false
is_data in_data OpensText = false

-- The pieces of a line from one of its places outside comments on, and whether a brace comment is open at its end. The
-- first flag tells that section data stands before the place.
pub data HasPieces : Bool → List ℕ → List Piece → Bool → Type 0 where
  at_line_end : {in_data : Bool} → HasPieces in_data [] [] false
  space :
      {byte : ℕ} {rest : List ℕ} {pieces : List Piece} {is_open : Bool} →
      meaning_of byte ≡ IsSpace → HasPieces false rest pieces is_open →
      HasPieces false (byte ∷ rest) (Space byte ∷ pieces) is_open
  section_data :
      {in_data : Bool} {byte : ℕ} {rest : List ℕ} {pieces : List Piece} {is_open : Bool} →
      is_data in_data (meaning_of byte) ≡ true → HasPieces true rest pieces is_open →
      HasPieces in_data (byte ∷ rest) (Data (byte ∷ []) ∷ pieces) is_open
  quoted_text :
      {in_data : Bool} {byte : ℕ} (text : List ℕ) {rest after : List ℕ} {pieces : List Piece} {is_open : Bool} →
      meaning_of byte ≡ OpensText → rest ≡ text ++ ascii.quote ∷ after → Lacks ascii.quote text →
      HasPieces true after pieces is_open →
      HasPieces in_data (byte ∷ rest) (Data (byte ∷ (text ++ ascii.quote ∷ [])) ∷ pieces) is_open
  unended_text :
      {in_data : Bool} {byte : ℕ} {rest : List ℕ} →
      meaning_of byte ≡ OpensText → Lacks ascii.quote rest →
      HasPieces in_data (byte ∷ rest) (Data (byte ∷ rest) ∷ []) false
  line_comment :
      {in_data : Bool} {byte : ℕ} {rest : List ℕ} →
      meaning_of byte ≡ EndsLine →
      HasPieces in_data (byte ∷ rest) (Comment (byte ∷ rest) ∷ []) false
  brace_comment :
      {in_data : Bool} {byte : ℕ} (text : List ℕ) {rest after : List ℕ} {pieces : List Piece} {is_open : Bool} →
      meaning_of byte ≡ OpensComment → rest ≡ text ++ ascii.close_brace ∷ after → Lacks ascii.close_brace text →
      HasPieces in_data after pieces is_open →
      HasPieces in_data (byte ∷ rest) (Comment (byte ∷ (text ++ ascii.close_brace ∷ [])) ∷ pieces) is_open
  open_comment :
      {in_data : Bool} {byte : ℕ} {rest : List ℕ} →
      meaning_of byte ≡ OpensComment → Lacks ascii.close_brace rest →
      HasPieces in_data (byte ∷ rest) (Comment (byte ∷ rest) ∷ []) true
  tag_pair :
      {byte : ℕ} (inside : List ℕ) {rest : List ℕ} {tag : Tag} {pieces : List Piece} {is_open : Bool} →
      meaning_of byte ≡ OpensTag → tag_of rest ≡ Some tag → rest ≡ inside ++ tag.rest →
      HasPieces false tag.rest pieces is_open →
      HasPieces false (byte ∷ rest) (Pair tag.name tag.value (byte ∷ inside) ∷ pieces) is_open
  no_tag_pair :
      {byte : ℕ} {rest : List ℕ} →
      meaning_of byte ≡ OpensTag → tag_of rest ≡ None →
      HasPieces false (byte ∷ rest) (NoPair (byte ∷ rest) ∷ []) false

-- ---- the lines of a text
pub data Kind : Type 0 where
  -- a line that holds only blanks: it ends a game
  Gap : List ℕ → Kind
  -- a line with `%` in its first column, which is passed over
  Escaped : List ℕ → Kind
  -- a line of a game
  OfGame : List Piece → Kind

abbrev pub body_of : Kind → List ℕ
body_of (Gap bytes) = bytes
body_of (Escaped bytes) = bytes
body_of (OfGame pieces) = flat_map bytes_of pieces

-- what a line is, where the flags tell that a brace comment is open before it, and behind it
pub data LineIs : Bool → List ℕ → Kind → Bool → Type 0 where
  is_escaped_line : {line : List ℕ} → is_escaped line ≡ true → LineIs false line (Escaped line) false
  is_gap : {line : List ℕ} → is_escaped line ≡ false → is_blank_line line ≡ true → LineIs false line (Gap line) false
  is_of_game :
      {line : List ℕ} {pieces : List Piece} {is_open : Bool} →
      is_escaped line ≡ false → is_blank_line line ≡ false → HasPieces false line pieces is_open →
      LineIs false line (OfGame pieces) is_open
  is_in_comment : {line : List ℕ} → Lacks ascii.close_brace line → LineIs true line (OfGame (Comment line ∷ [])) true
  closes_comment :
      (text : List ℕ) {line rest : List ℕ} {pieces : List Piece} {is_open : Bool} →
      line ≡ text ++ ascii.close_brace ∷ rest → Lacks ascii.close_brace text → HasPieces false rest pieces is_open →
      LineIs true line (OfGame (Comment (text ++ ascii.close_brace ∷ []) ∷ pieces)) is_open

-- the bytes of a line without its end, and its end: LF, CR LF, or nothing at the end of a text
pub record Row : Type 0 where
  pub bytes : List ℕ
  pub end : List ℕ

-- its last byte is a carriage return
abbrev pub ends_with_return : List ℕ → Bool
ends_with_return [] = false
ends_with_return (byte ∷ []) = byte == ascii.carriage_return
ends_with_return (byte ∷ other ∷ bytes) = ends_with_return (other ∷ bytes)

-- the end of a line that is this part between two line feeds
abbrev pub end_of : List ℕ → List ℕ
end_of part = if ends_with_return part then (ascii.carriage_return ∷ ascii.line_feed ∷ []) else (ascii.line_feed ∷ [])

-- what stands behind the last line feed is a line where there is a byte
abbrev pub rows_of_parts : List (List ℕ) → List Row
rows_of_parts [] = []
rows_of_parts (part ∷ []) = if is_word part then record { bytes = part; end = [] } ∷ [] else []
rows_of_parts (part ∷ next ∷ parts) =
    record { bytes = without_return part; end = end_of part } ∷ rows_of_parts (next ∷ parts)

abbrev pub rows_of : List ℕ → List Row
rows_of text = rows_of_parts (slice_split is_line_feed text)

-- a line, and its end
pub record Line : Type 0 where
  pub kind : Kind
  pub end : List ℕ

abbrev pub line_bytes : Line → List ℕ
line_bytes line = body_of line.kind ++ line.end

-- what rows are, where the flags tell that a brace comment is open before the first, and behind the last
pub data AreLines : Bool → List Row → List Line → Bool → Type 0 where
  no_more : {is_open : Bool} → AreLines is_open [] [] is_open
  one_more :
      {is_open is_open' last : Bool} {row : Row} {rows : List Row} {kind : Kind} {lines : List Line} →
      LineIs is_open row.bytes kind is_open' → AreLines is_open' rows lines last →
      AreLines is_open (row ∷ rows) (record { kind = kind; end = row.end } ∷ lines) last

-- the byte order mark, where there is one
abbrev pub mark_of : List ℕ → List ℕ
mark_of (a ∷ b ∷ c ∷ text) = if (a == 239) && ((b == 187) && (c == 191)) then (239 ∷ 187 ∷ 191 ∷ []) else []
mark_of _ = []

-- these are the lines of the text; no brace comment is open at its end
abbrev pub HasLines : List ℕ → List Line → Type 0
HasLines text lines = AreLines false (rows_of (without_mark text)) lines false
