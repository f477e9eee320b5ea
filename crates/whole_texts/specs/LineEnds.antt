-- The ends of lines, and the end that the last line of a text lacks.
use Rattle.std.specs.Prelude.{◌≡◌, ℕ, ◌==◌, List, [], ◌∷◌, Option, None, Some, ◌⊎◌, if◌then◌else◌}
use Rattle.cards.specs.Bytes as ascii

-- the end of a line
abbrev pub IsLineEnd : List ℕ → Type 0
IsLineEnd end = (end ≡ ascii.carriage_return ∷ ascii.line_feed ∷ []) ⊎ (end ≡ ascii.line_feed ∷ [])

-- the last byte of a text that ended with the first one, with these bytes more
abbrev pub last_of : Option ℕ → List ℕ → Option ℕ
last_of before [] = before
last_of before (byte ∷ bytes) = last_of (Some byte) bytes

-- what lines with this last byte lack of an end
abbrev pub missing_end : Option ℕ → List ℕ → List ℕ
missing_end None end = []
missing_end (Some byte) end =
    if byte == ascii.line_feed then [] else
    (if byte == ascii.carriage_return then (ascii.carriage_return ∷ ascii.line_feed ∷ []) else end)
