-- The first line of a text, what a line is, and its first piece.
use Rattle.std.specs.Prelude.{◌≡◌, ◌≢◌, ℕ, ◌==◌, ◌||◌, Bool, true, false, List, [], ◌∷◌, ◌++◌, map}
use Rattle.std.specs.Prelude.{Option, Some, None, All}
use Rattle.std.specs.List.{flat_map, list_all}
use Rattle.std.specs.Borrow.{Bor}
use Rattle.pbn_deals.specs.declared.pieces.Row.{Row as CodeRow}
use Rattle.pbn_deals.specs.declared.pieces.Piece.{Piece as CodePiece}
use Rattle.pbn_deals.specs.declared.pieces.Piece.TheVariants as seen
use Rattle.pbn_deals.specs.declared.line_starts.LineStart.{LineStart}
use Rattle.pbn_deals.specs.declared.line_starts.LineStart.TheVariants as start
use Rattle.pbn_deals.specs.DealValue.{is_word}
use Rattle.pbn_deals.specs.Pieces.{Piece, Space, Comment, Pair, Data, NoPair, bytes_of, HasPieces, rows_of}
use Rattle.pbn_deals.specs.Pieces.{Kind, Gap, Escaped, OfGame}
use Rattle.cards.specs.Bytes as ascii

-- the first row of a text, and the text behind it
pub record IsFirstRow (text : List ℕ) (row : CodeRow) (after : List ℕ) : Type 0 where
  pub rows : rows_of text ≡ record { bytes = row.bytes.now; end = row.end.now } ∷ rows_of after
  pub whole : text ≡ (row.bytes.now ++ row.end.now) ++ after

-- a byte that ends section data, or is none
abbrev pub is_sign : ℕ → Bool
is_sign byte = (byte == ascii.semicolon) || ((byte == ascii.open_brace) || (byte == ascii.quote))

-- bytes without such a one stand before the rest of the text
pub record IsAfterData (text after : List ℕ) : Type 0 where
  pub front : List ℕ
  pub whole : text ≡ front ++ after
  pub no_sign : All (λ byte. is_sign byte ≡ false) front

abbrev pub is_data_piece : Piece → Bool
is_data_piece (Space byte) = false
is_data_piece (Comment bytes) = false
is_data_piece (Pair name value bytes) = false
is_data_piece (Data bytes) = true
is_data_piece (NoPair bytes) = false

-- the bytes of what was found
abbrev pub found_bytes : CodePiece → List ℕ
found_bytes (seen.Blanks bytes) = bytes.now
found_bytes (seen.Comment bytes) = bytes.now
found_bytes (seen.OpenComment bytes) = bytes.now
found_bytes (seen.Pair name value bytes) = bytes.now
found_bytes (seen.Data bytes) = bytes.now
found_bytes (seen.NoPair bytes) = bytes.now

abbrev pub is_found_data : CodePiece → Bool
is_found_data (seen.Data bytes) = true
is_found_data _ = false

-- a brace comment is open behind it
abbrev pub opens_comment : CodePiece → Bool
opens_comment (seen.OpenComment bytes) = true
opens_comment _ = false

-- the pieces of a line that it is
abbrev pub ArePieces : CodePiece → List Piece → Type 0
ArePieces (seen.Blanks bytes) pieces = pieces ≡ map Space bytes.now
ArePieces (seen.Comment bytes) pieces = pieces ≡ Comment bytes.now ∷ []
ArePieces (seen.OpenComment bytes) pieces = pieces ≡ Comment bytes.now ∷ []
ArePieces (seen.Pair name value bytes) pieces = pieces ≡ Pair name.now value.now bytes.now ∷ []
ArePieces (seen.Data bytes) pieces = (list_all is_data_piece pieces ≡ true) × (flat_map bytes_of pieces ≡ bytes.now)
ArePieces (seen.NoPair bytes) pieces = pieces ≡ NoPair bytes.now ∷ []

-- what comes first of the pieces of a line, and those behind it
pub record IsFirst (in_data : Bool) (text : List ℕ) (pieces : List Piece) (is_open : Bool) (piece : CodePiece)
    (after : List ℕ)
    : Type 0 where
  pub some : found_bytes piece ≢ []
  pub whole : text ≡ found_bytes piece ++ after
  pub first : List Piece
  pub are : ArePieces piece first
  pub more : List Piece
  pub all : pieces ≡ first ++ more
  pub open_behind : Bool
  pub has : HasPieces (is_found_data piece || in_data) after more open_behind
  pub opens : is_open ≡ (opens_comment piece || open_behind)
  pub last : opens_comment piece ≡ true → after ≡ []

abbrev pub FirstPiece : Bool → List ℕ → List Piece → Bool → Option (CodePiece × Bor (List ℕ)) → Type 0
FirstPiece in_data text pieces is_open None = (text ≡ []) × (pieces ≡ []) × (is_open ≡ false)
FirstPiece in_data text pieces is_open (Some (piece, after)) = IsFirst in_data text pieces is_open piece after.now

-- ---- what a line is
-- the comment that was open before the line, up to its end
abbrev pub comment_before : List ℕ → List Piece
comment_before [] = []
comment_before (byte ∷ bytes) = Comment (byte ∷ bytes) ∷ []

-- the pieces of the rest of a line, behind that comment
pub record IsOfGame (is_open : Bool) (line comment rest : List ℕ) (kind : Kind) (last : Bool) : Type 0 where
  pub whole : line ≡ comment ++ rest
  pub has_comment : is_word comment ≡ is_open
  pub pieces : List Piece
  pub are : kind ≡ OfGame (comment_before comment ++ pieces)
  pub has : HasPieces false rest pieces last

abbrev pub Starts : Bool → List ℕ → Kind → Bool → LineStart → Type 0
Starts is_open line kind last start.Escaped = (is_open ≡ false) × (kind ≡ Escaped line) × (last ≡ false)
Starts is_open line kind last start.Gap = (is_open ≡ false) × (kind ≡ Gap line) × (last ≡ false)
Starts is_open line kind last start.InComment = (is_open ≡ true) × (kind ≡ OfGame (Comment line ∷ [])) × (last ≡ true)
Starts is_open line kind last (start.OfGame comment rest) = IsOfGame is_open line comment.now rest.now kind last
