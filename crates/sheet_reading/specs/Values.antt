-- What a page shows of a value.
use Rattle.std.specs.Prelude.{ℕ, List, map}
use Rattle.html.specs.Values.{shown_char, value_chars}

-- the characters that a page shows of a value
unfoldable pub shown : List ℕ → List ℕ
shown bytes = map shown_char (value_chars bytes)
