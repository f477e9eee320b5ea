-- What holds of every value and of every template.
use Rattle.std.specs.Prelude.{◌≡◌, ℕ, ◌<◌, true, List, [], ◌∷◌, ◌++◌, map, All}
use Rattle.std.specs.Char.{encode_utf8}
use Rattle.std.specs.List.{flat_map}
use Rattle.std.specs.Str.{chars}
use Rattle.html.specs.Values.{value_text}
use Rattle.sheet_reading.specs.Values.{shown}
use Rattle.html.specs.Plain.{is_plain}
use Rattle.html.specs.Places.{InText, place_at_end}
use Rattle.sheet_reading.specs.Pages.{parts_of, joined, markup_of, resolved}
use Rattle.html.specs.Templates.{filled}
use Rattle.html.specs.PlainTemplates.{is_template}

-- a value in a page is one text without a tag, and what is read of it is what is to be shown
pub record IsText (value : List ℕ) : Type 0 where
  pub one : parts_of (value_text value) ≡ value_text value ∷ []
  pub read : chars (resolved (value_text value)) ≡ shown value

abbrev pub ValuesAreTexts : Type 0
ValuesAreTexts = (value : List ℕ) → All (λ byte. byte < 256) value → IsText value

-- a text of a page that is a value is read as the UTF-8 of what is to be shown
abbrev pub ValuesAreRead : Type 0
ValuesAreRead = (value : List ℕ) → resolved (value_text value) ≡ flat_map encode_utf8 (shown value)

-- a plain value stands in a page as it is
abbrev pub PlainValuesStay : Type 0
PlainValuesStay = (value : List ℕ) → is_plain value ≡ true → value_text value ≡ value

-- The tags of a filled template are the same whatever the values are, and it ends between tags. Its parts are those of
-- the template, filled.
pub record IsPlain (template : List ℕ) : Type 0 where
  pub same : (values others : List ℕ → List ℕ) → markup_of (filled values template) ≡ markup_of (filled others template)
  pub ends : (values : List ℕ → List ℕ) → place_at_end InText (filled values template) ≡ InText
  pub parts : (values : List ℕ → List ℕ) → parts_of (filled values template) ≡ map (filled values) (parts_of template)

abbrev pub TemplatesArePlain : Type 0
TemplatesArePlain = (template : List ℕ) → is_template template ≡ true → IsPlain template

-- what follows a page that ends between tags adds its tags to those of the page, and its parts
pub record Adds (page after : List ℕ) : Type 0 where
  pub markup : markup_of (page ++ after) ≡ markup_of page ++ markup_of after
  pub parts : parts_of (page ++ after) ≡ joined (parts_of page) (parts_of after)

abbrev pub PagesAdd : Type 0
PagesAdd = (page after : List ℕ) → place_at_end InText page ≡ InText → Adds page after
