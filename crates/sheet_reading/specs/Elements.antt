-- How the elements of a page of HTML are read, and their text. Nothing here looks at how a page is written.
use Rattle.std.specs.Prelude.{ℕ, ◌==◌, Bool, false, ◌||◌, List, [], ◌∷◌, ◌++◌, codes, Option, None, Some}
use Rattle.std.specs.Prelude.{if◌then◌else◌, bytes_eq}
use Rattle.std.specs.List.{flat_map, list_any}
use Rattle.pbn_deals.specs.DealValue.{words_of}
use Rattle.sheet_reading.specs.Pages.{parts_of, resolved}
use Rattle.cards.specs.Bytes as ascii

-- ---- the name of a tag
-- a blank, the end of a line, or the end of the tag
abbrev pub ends_name : ℕ → Bool
ends_name byte = byte == ascii.blank || (byte == ascii.line_feed || byte == ascii.close_angle)

abbrev pub up_to_end : List ℕ → List ℕ
up_to_end [] = []
up_to_end (byte ∷ bytes) = if ends_name byte then [] else byte ∷ up_to_end bytes

-- the name in a tag: `th` in `<th scope="row">`, and `/th` in `</th>`
abbrev pub tag_name : List ℕ → List ℕ
tag_name [] = []
tag_name (bracket ∷ bytes) = up_to_end bytes

-- ---- the attributes of a tag: a blank, the name, `=`, and the value in quotes
-- what comes after these bytes, if a text begins with them
abbrev pub past_start : List ℕ → List ℕ → Option (List ℕ)
past_start [] text = Some text
past_start (first ∷ more) [] = None
past_start (first ∷ more) (byte ∷ text) = if byte == first then past_start more text else None

abbrev pub up_to_quote : List ℕ → List ℕ
up_to_quote [] = []
up_to_quote (byte ∷ bytes) = if byte == ascii.quote then [] else byte ∷ up_to_quote bytes

abbrev pub quoted_or : Option (List ℕ) → Option (List ℕ) → Option (List ℕ)
quoted_or None other = other
quoted_or (Some text) other = Some (up_to_quote text)

-- the value of the first attribute of this name, if the tag has one
abbrev pub attribute_in : List ℕ → List ℕ → Option (List ℕ)
attribute_in name [] = None
attribute_in name (byte ∷ bytes) =
    quoted_or (past_start (ascii.blank ∷ (name ++ (codes "=" ++ ascii.quote ∷ []))) (byte ∷ bytes))
    (attribute_in name bytes)

-- ---- a page, piece by piece
-- a tag with its brackets, its name, and the text between it and the next tag
pub record Piece : Type 0 where
  pub tag : List ℕ
  pub name : List ℕ
  pub text : List ℕ

-- the pieces of parts that begin with a tag
abbrev pub pieces_in : List (List ℕ) → List Piece
pieces_in (tag ∷ text ∷ parts) = record { tag = tag; name = tag_name tag; text = resolved text } ∷ pieces_in parts
pieces_in _ = []

-- a text before the first tag is of no element
abbrev pub past_text : List (List ℕ) → List Piece
past_text [] = []
past_text (text ∷ parts) = pieces_in parts

abbrev pub pieces_of : List ℕ → List Piece
pieces_of page = past_text (parts_of page)

-- whether a value has a word
abbrev pub has_word : List ℕ → Option (List ℕ) → Bool
has_word word None = false
has_word word (Some value) = list_any (bytes_eq word) (words_of value)

abbrev pub has_class : List ℕ → Piece → Bool
has_class name piece = has_word name (attribute_in (codes "class") piece.tag)

-- ---- elements
-- the name of the tag that ends an element
abbrev pub end_of : List ℕ → List ℕ
end_of name = ascii.slash ∷ name

-- the pieces before the first tag of this name, or all if there is none
abbrev pub before_tag : List ℕ → List Piece → List Piece
before_tag name [] = []
before_tag name (piece ∷ pieces) =
    if bytes_eq piece.name name then [] else piece ∷ before_tag name pieces

-- The elements of this name in their order, each from its first tag to the next tag that ends such an element. An
-- element that isn't ended goes on to the end.
abbrev pub elements : List ℕ → List Piece → List (List Piece)
elements name [] = []
elements name (piece ∷ pieces) =
    if bytes_eq piece.name name then (piece ∷ before_tag (end_of name) pieces) ∷ elements name pieces
    else elements name pieces

-- the text of an element: all of its texts, one after the other
abbrev pub text_in : List Piece → List ℕ
text_in pieces = flat_map (λ piece. piece.text) pieces
