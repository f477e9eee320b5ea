-- The boards of a text, by its lines and their pieces.
use Rattle.std.specs.Prelude.{◌≡◌, ℕ, ◌+◌, Bool, true, false, List, [], ◌∷◌, ◌++◌, length, Ok}
use Rattle.std.specs.List.{flat_map}
use Rattle.pbn_deals.specs.declared.boards.Board.{Board}
use Rattle.pbn_deals.specs.Games.{Tags, no_tags, TakesTag, boards_of}
use Rattle.pbn_deals.specs.Lines.{without_mark}
use Rattle.pbn_deals.specs.Pieces.{Piece, Space, Comment, Pair, Data, NoPair, Gap, Escaped, OfGame, rows_of, Line}
use Rattle.pbn_deals.specs.Pieces.{line_bytes, AreLines, mark_of}

-- what a tag pair makes of a game that follows so many boards, on whatever line it stands
abbrev pub AddsTag : ℕ → Tags → List ℕ → List ℕ → Tags → Type 0
AddsTag count tags name value tags' = (number : ℕ) → TakesTag number count tags name value (Ok tags')

-- a piece that says nothing of a board
abbrev pub is_silent : Piece → Bool
is_silent (Space byte) = true
is_silent (Comment bytes) = true
is_silent (Pair name value bytes) = false
is_silent (Data bytes) = true
is_silent (NoPair bytes) = false

-- what pieces make of a game: each tag pair is taken in turn
pub data AddsPieces (count : ℕ) : Tags → List Piece → Tags → Type 0 where
  adds_nothing : {tags : Tags} → AddsPieces count tags [] tags
  adds_pair :
      {tags tags' last : Tags} {name value bytes : List ℕ} {pieces : List Piece} →
      AddsTag count tags name value tags' → AddsPieces count tags' pieces last →
      AddsPieces count tags (Pair name value bytes ∷ pieces) last
  adds_silent :
      {tags last : Tags} {piece : Piece} {pieces : List Piece} →
      is_silent piece ≡ true → AddsPieces count tags pieces last →
      AddsPieces count tags (piece ∷ pieces) last

-- the boards of the lines from one on, behind so many boards, where the tags of its game before it are these
pub data HaveBoards : ℕ → Tags → List Line → List Board → Type 0 where
  at_text_end : {count : ℕ} {tags : Tags} → HaveBoards count tags [] (boards_of tags)
  behind_gap :
      {count : ℕ} {tags : Tags} {bytes end : List ℕ} {lines : List Line} {boards : List Board} →
      HaveBoards (count + length (boards_of tags)) no_tags lines boards →
      HaveBoards count tags (record { kind = Gap bytes; end = end } ∷ lines) (boards_of tags ++ boards)
  behind_escaped :
      {count : ℕ} {tags : Tags} {bytes end : List ℕ} {lines : List Line} {boards : List Board} →
      HaveBoards count tags lines boards →
      HaveBoards count tags (record { kind = Escaped bytes; end = end } ∷ lines) boards
  behind_line :
      {count : ℕ} {tags tags' : Tags} {pieces : List Piece} {end : List ℕ} {lines : List Line} {boards : List Board} →
      AddsPieces count tags pieces tags' → HaveBoards count tags' lines boards →
      HaveBoards count tags (record { kind = OfGame pieces; end = end } ∷ lines) boards

-- ---- laws
-- Each text is the bytes of its lines, behind its byte order mark; and they are read in one way.
pub record AreTextLines (text : List ℕ) : Type 0 where
  pub lines : List Line
  pub is_open : Bool
  pub read : AreLines false (rows_of (without_mark text)) lines is_open
  pub whole : text ≡ mark_of text ++ flat_map line_bytes lines
  pub one :
      (others : List Line) (is_open' : Bool) → AreLines false (rows_of (without_mark text)) others is_open' →
      (others ≡ lines) × (is_open' ≡ is_open)
