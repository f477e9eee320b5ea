-- How a page of HTML is read that has no comment and no script: texts and tags in turn. Nothing here looks at how a
-- page is written (HTML, 13.2.5 "Tokenization").
use Rattle.std.specs.Prelude.{ℕ, ◌==◌, Bool, true, false, List, [], ◌∷◌, ◌++◌, codes, bytes_eq}
use Rattle.std.specs.Prelude.{if◌then◌else◌, Option, None, Some}
use Rattle.html.specs.Places.{Place, InText, is_text, place_after}
use Rattle.cards.specs.Bytes as ascii

-- ---- texts and tags
-- the parts with this byte before the first
abbrev pub with_byte : ℕ → List (List ℕ) → List (List ℕ)
with_byte byte [] = (byte ∷ []) ∷ []
with_byte byte (part ∷ parts) = (byte ∷ part) ∷ parts

-- the parts with a byte before them, by whether the places before and after it are texts: a tag has both its brackets
abbrev pub parts_with : Bool → Bool → ℕ → List (List ℕ) → List (List ℕ)
parts_with true true byte parts = with_byte byte parts
parts_with true false byte parts = [] ∷ with_byte byte parts
parts_with false true byte parts = (byte ∷ []) ∷ parts
parts_with false false byte parts = with_byte byte parts

-- texts and tags in turn, from what is left of this place on
abbrev pub parts_from : Place → List ℕ → List (List ℕ)
parts_from place [] = [] ∷ []
parts_from place (byte ∷ bytes) =
    parts_with (is_text place) (is_text (place_after place byte)) byte (parts_from (place_after place byte) bytes)

-- a text, a tag, a text and so on, up to the text after the last tag
abbrev pub parts_of : List ℕ → List (List ℕ)
parts_of page = parts_from InText page

-- the parts of one page and of another behind it: the last text and the first are one
abbrev pub joined : List (List ℕ) → List (List ℕ) → List (List ℕ)
joined [] others = others
joined (last ∷ []) [] = last ∷ []
joined (last ∷ []) (first ∷ others) = (last ++ first) ∷ others
joined (part ∷ next ∷ parts) others = part ∷ joined (next ∷ parts) others

-- every other part, from the first or from the second on
abbrev pub every_other : Bool → List (List ℕ) → List (List ℕ)
every_other takes [] = []
every_other true (part ∷ parts) = part ∷ every_other false parts
every_other false (part ∷ parts) = every_other true parts

-- the elements and attributes of a page: its tags, byte by byte
abbrev pub markup_of : List ℕ → List (List ℕ)
markup_of page = every_other false (parts_of page)

-- ---- the characters of a text
-- the suit that a character reference stands for (U+2660, U+2665, U+2666, U+2663); one that isn't known stays as it is
abbrev pub suit_reference : List ℕ → List ℕ
suit_reference name =
    if bytes_eq name (codes "spades") then 0xE2 ∷ 0x99 ∷ 0xA0 ∷ [] else
    (if bytes_eq name (codes "hearts") then 0xE2 ∷ 0x99 ∷ 0xA5 ∷ [] else
    (if bytes_eq name (codes "diams") then 0xE2 ∷ 0x99 ∷ 0xA6 ∷ [] else
    (if bytes_eq name (codes "clubs") then 0xE2 ∷ 0x99 ∷ 0xA3 ∷ [] else
    ascii.ampersand ∷ (name ++ ascii.semicolon ∷ []))))

-- what a character reference stands for
abbrev pub reference : List ℕ → List ℕ
reference name =
    if bytes_eq name (codes "amp") then ascii.ampersand ∷ [] else
    (if bytes_eq name (codes "lt") then ascii.open_angle ∷ [] else
    (if bytes_eq name (codes "gt") then ascii.close_angle ∷ [] else
    suit_reference name))

-- the bytes that a text stands for: what goes from `&` to `;` is a reference, of which this is the name so far, if any
abbrev pub resolved_from : Option (List ℕ) → List ℕ → List ℕ
resolved_from None [] = []
resolved_from None (byte ∷ bytes) =
    if byte == ascii.ampersand then resolved_from (Some []) bytes else byte ∷ resolved_from None bytes
resolved_from (Some name) [] = ascii.ampersand ∷ name
resolved_from (Some name) (byte ∷ bytes) =
    if byte == ascii.semicolon then reference name ++ resolved_from None bytes
    else resolved_from (Some (name ++ byte ∷ [])) bytes

abbrev pub resolved : List ℕ → List ℕ
resolved text = resolved_from None text
