-- A template: a page with places `{name}` for values.
use Rattle.std.specs.Prelude.{ℕ, ◌==◌, List, [], ◌∷◌, ◌++◌, if◌then◌else◌, Option, None, Some}
use Rattle.html.specs.Values.{value_text}
use Rattle.cards.specs.Bytes as ascii

-- the template with a text in each place, by the place's name; this is the name so far of a place that was begun
abbrev pub filled_from : (List ℕ → List ℕ) → Option (List ℕ) → List ℕ → List ℕ
filled_from texts None [] = []
filled_from texts None (byte ∷ bytes) =
    if byte == ascii.open_brace then filled_from texts (Some []) bytes else byte ∷ filled_from texts None bytes
filled_from texts (Some name) [] = []
filled_from texts (Some name) (byte ∷ bytes) =
    if byte == ascii.close_brace then texts name ++ filled_from texts None bytes
    else filled_from texts (Some (name ++ byte ∷ [])) bytes

-- the template with a value in each place
unfoldable pub filled : (List ℕ → List ℕ) → List ℕ → List ℕ
filled values template = filled_from (λ name. value_text (values name)) None template
