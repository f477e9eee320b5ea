-- The pieces of a whole text, as they are cut and not read yet.
use Rattle.std.specs.Prelude.{◌≡◌, ℕ, ◌<◌, Bool, true, false, List, length, Option, None, Some}
use Rattle.evidence.specs.declared.parts.Piece.{Piece}
use Rattle.evidence.specs.Pieces.{greatest_length, Reading, reading_of, Passes, IsAtEnd}
use Rattle.evidence.specs.Wholes.{Whole}

-- these bytes were held of a piece: all of them, unless it is too long
abbrev pub IsCutOf : Bool → List ℕ → List ℕ → Type 0
IsCutOf true bytes piece = greatest_length < length piece
IsCutOf false bytes piece = bytes ≡ piece

-- the next piece, if there is one
abbrev pub IsNextCut : Reading → Reading → Option Piece → Type 0
IsNextCut old new None = IsAtEnd old new
IsNextCut old new (Some cut) = (cut.at ≡ old.before) × Passes old new (IsCutOf cut.is_long cut.bytes.items)

abbrev pub IsNextCutOf : Whole → Whole → Option Piece → Type 0
IsNextCutOf old new cut =
    IsNextCut (reading_of old.source old.held old.before) (reading_of new.source new.held new.before) cut
