-- Tag pairs (PBN 2.1, section 3.2): a name and a value in quotes between brackets, on one line.
use Rattle.std.specs.Prelude.{ℕ, ◌==◌, ◌&&◌, ◌||◌, Bool, true, false, List, [], ◌∷◌, Option, Some, None, if◌then◌else◌}
use Rattle.std.specs.Prelude.{nat_le, codes}
use Rattle.pbn_deals.specs.Letters.{is_letter}
use Rattle.pbn_deals.specs.DealValue.{after_blanks}
use Rattle.cards.specs.Bytes as ascii

-- a letter, a digit or `_`
abbrev pub is_name_byte : ℕ → Bool
is_name_byte byte =
    (nat_le 65 byte && nat_le byte 90) ||
    ((nat_le 97 byte && nat_le byte 122) ||
    ((nat_le ascii.zero byte && nat_le byte ascii.nine) || (byte == ascii.underscore)))

-- a tag pair, and what stands after it in its line
pub record Tag : Type 0 where
  pub name : List ℕ
  pub value : List ℕ
  pub rest : List ℕ

-- the bytes of a name at the front, and what stands after them
abbrev pub name_front : List ℕ → List ℕ
name_front [] = []
name_front (byte ∷ bytes) = if is_name_byte byte then byte ∷ name_front bytes else []

abbrev pub after_name : List ℕ → List ℕ
after_name [] = []
after_name (byte ∷ bytes) = if is_name_byte byte then after_name bytes else (byte ∷ bytes)

-- what stands before the next quote, and after it
abbrev pub value_front : List ℕ → List ℕ
value_front [] = []
value_front (byte ∷ bytes) = if byte == ascii.quote then [] else byte ∷ value_front bytes

abbrev pub after_value : List ℕ → Option (List ℕ)
after_value [] = None
after_value (byte ∷ bytes) = if byte == ascii.quote then Some bytes else after_value bytes

-- the closing bracket
abbrev pub closed_tag : List ℕ → List ℕ → List ℕ → Option Tag
closed_tag name value [] = None
closed_tag name value (byte ∷ bytes) =
    if byte == ascii.close_bracket then Some (record { name = name; value = value; rest = bytes }) else None

abbrev pub tag_with_value : List ℕ → List ℕ → Option (List ℕ) → Option Tag
tag_with_value name value (Some after) = closed_tag name value (after_blanks after)
tag_with_value name value None = None

-- the opening quote, and the value up to the next quote
abbrev pub tag_with_name : List ℕ → List ℕ → Option Tag
tag_with_name name [] = None
tag_with_name name (byte ∷ bytes) =
    if byte == ascii.quote then tag_with_value name (value_front bytes) (after_value bytes) else None

-- a name of one byte at least
abbrev pub named_tag : List ℕ → List ℕ → Option Tag
named_tag [] after = None
named_tag (byte ∷ bytes) after = tag_with_name (byte ∷ bytes) (after_blanks after)

-- the tag pair that stands after an opening bracket
abbrev pub tag_of : List ℕ → Option Tag
tag_of text = named_tag (name_front (after_blanks text)) (after_name (after_blanks text))

-- names are compared without regard to case: the first is in capitals
abbrev pub is_same_name : List ℕ → List ℕ → Bool
is_same_name [] [] = true
is_same_name [] (byte ∷ bytes) = false
is_same_name (capital ∷ capitals) [] = false
is_same_name (capital ∷ capitals) (byte ∷ bytes) = is_letter capital byte && is_same_name capitals bytes

abbrev pub is_board : List ℕ → Bool
is_board = is_same_name (codes "BOARD")

abbrev pub is_deal : List ℕ → Bool
is_deal = is_same_name (codes "DEAL")

-- the value is handed on from another game
abbrev pub is_inherited : List ℕ → Bool
is_inherited [] = false
is_inherited (byte ∷ bytes) = byte == ascii.hash
