-- How a value stands in a page of HTML: as text, whatever its bytes are.
use Rattle.std.specs.Prelude.{ℕ, ◌==◌, List, map, flat_map, codes, if◌then◌else◌}
use Rattle.std.specs.Char.{encode_utf8, is_control}
use Rattle.std.specs.Str.{chars, is_utf8}
use Rattle.cards.specs.Bytes as ascii

-- the characters of a value: those that its bytes spell in UTF-8, or else one for each byte (ISO 8859-1)
abbrev pub value_chars : List ℕ → List ℕ
value_chars bytes = if is_utf8 bytes then chars bytes else bytes

-- a control character is shown as U+FFFD
abbrev pub shown_char : ℕ → ℕ
shown_char c = if is_control c then 0xFFFD else c

-- the bytes of a character in a page: a reference for each that could begin or end markup, or else its UTF-8
abbrev pub char_text : ℕ → List ℕ
char_text c =
    if c == ascii.ampersand then codes "&amp;" else
    (if c == ascii.open_angle then codes "&lt;" else
    (if c == ascii.close_angle then codes "&gt;" else
    encode_utf8 c))

-- the bytes of characters in a page
abbrev pub chars_text : List ℕ → List ℕ
chars_text cs = flat_map char_text (map shown_char cs)

-- the bytes of a value in a page
unfoldable pub value_text : List ℕ → List ℕ
value_text bytes = chars_text (value_chars bytes)
