-- Where a byte of a page stands that has no comment and no script (HTML, 13.2.5 "Tokenization").
use Rattle.std.specs.Prelude.{ℕ, ◌==◌, Bool, true, false, List, [], ◌∷◌, if◌then◌else◌}
use Rattle.cards.specs.Bytes as ascii

-- where a byte stands: in a text, in a tag, or in an attribute's value that began with this quote
pub data Place : Type 0 where
  InText : Place
  InTag : Place
  InQuotes : ℕ → Place

abbrev pub is_text : Place → Bool
is_text InText = true
is_text InTag = false
is_text (InQuotes quote) = false

-- the place after a byte
abbrev pub place_after : Place → ℕ → Place
place_after InText byte = if byte == ascii.open_angle then InTag else InText
place_after InTag byte =
    if byte == ascii.close_angle then InText else
    (if byte == ascii.quote then InQuotes ascii.quote else
    (if byte == ascii.apostrophe then InQuotes ascii.apostrophe else
    InTag))
place_after (InQuotes quote) byte = if byte == quote then InTag else InQuotes quote

-- the place after all these bytes
abbrev pub place_at_end : Place → List ℕ → Place
place_at_end place [] = place
place_at_end place (byte ∷ bytes) = place_at_end (place_after place byte) bytes
