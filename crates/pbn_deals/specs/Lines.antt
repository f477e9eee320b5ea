-- The lines of a PBN text (PBN 2.1, section 2.2; docs/FORMATS.md has what the standard leaves open).
use Rattle.std.specs.Prelude.{ℕ, ◌==◌, ◌&&◌, Bool, false, not, List, [], ◌∷◌, if◌then◌else◌}
use Rattle.std.specs.List.{slice_split}
use Rattle.pbn_deals.specs.DealValue.{after_blanks, is_word}
use Rattle.cards.specs.Bytes as ascii

-- the byte order mark at the very start is skipped
abbrev pub without_mark : List ℕ → List ℕ
without_mark [] = []
without_mark (a ∷ []) = a ∷ []
without_mark (a ∷ b ∷ []) = a ∷ b ∷ []
without_mark (a ∷ b ∷ c ∷ text) =
    if (a == 239) && ((b == 187) && (c == 191)) then text else (a ∷ b ∷ c ∷ text)

abbrev pub is_line_feed : ℕ → Bool
is_line_feed byte = byte == ascii.line_feed

-- a carriage return directly before the line feed belongs to the end of the line
abbrev pub without_return : List ℕ → List ℕ
without_return [] = []
without_return (byte ∷ []) = if byte == ascii.carriage_return then [] else (byte ∷ [])
without_return (byte ∷ other ∷ bytes) = byte ∷ without_return (other ∷ bytes)

-- what is left of the parts between line feeds: the last part has no line feed after it
abbrev pub ended : List (List ℕ) → List (List ℕ)
ended [] = []
ended (part ∷ []) = part ∷ []
ended (part ∷ next ∷ parts) = without_return part ∷ ended (next ∷ parts)

abbrev pub lines_of : List ℕ → List (List ℕ)
lines_of text = ended (slice_split is_line_feed text)

-- a line with `%` in its first column
abbrev pub is_escaped : List ℕ → Bool
is_escaped [] = false
is_escaped (byte ∷ bytes) = byte == ascii.percent

-- a line that holds only blanks
abbrev pub is_blank_line : List ℕ → Bool
is_blank_line line = not (is_word (after_blanks line))
