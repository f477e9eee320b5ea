-- Templates whose values stand between their tags.
use Rattle.std.specs.Prelude.{ℕ, ◌==◌, Bool, true, not, ◌&&◌, List, [], ◌∷◌, if◌then◌else◌, Option, None, Some}
use Rattle.html.specs.Places.{Place, InText, is_text, place_after}
use Rattle.cards.specs.Bytes as ascii

-- Values stand only in texts, and so does the end; no name has a `<`. No place of a page is one where a name was begun.
abbrev pub holds_values : Option Place → List ℕ → Bool
holds_values (Some place) [] = is_text place
holds_values None [] = true
holds_values (Some place) (byte ∷ bytes) =
    if byte == ascii.open_brace then is_text place && holds_values None bytes
    else holds_values (Some (place_after place byte)) bytes
holds_values None (byte ∷ bytes) =
    if byte == ascii.close_brace then holds_values (Some InText) bytes
    else not (byte == ascii.open_angle) && holds_values None bytes

-- a template whose values stand between its tags
unfoldable pub is_template : List ℕ → Bool
is_template template = holds_values (Some InText) template
