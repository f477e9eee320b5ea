-- The text of an answer: its result, and the texts of two certificates.
use Rattle.std.specs.Prelude.{◌≡◌, ◌≢◌, ℕ, ◌-◌, ◌≤◌, List, [], ◌∷◌, ◌++◌, length, slice_get, Some, codes, ◌⊎◌}
use Rattle.std.specs.Fmt.{decimal}
use Rattle.cards.specs.Bytes as ascii

-- a number and a line feed before a text
abbrev pub number_line : ℕ → List ℕ → List ℕ
number_line number rest = decimal number ++ ascii.line_feed ∷ rest

-- the first line, and what stands after it
abbrev pub result_text : ℕ → List ℕ → List ℕ
result_text tricks body = codes "result " ++ number_line tricks body

-- a line without bytes stands in this place: a line feed, at the very beginning or after another one
pub record IsEmptyLine (text : List ℕ) (place : ℕ) : Type 0 where
  pub ends : slice_get text place ≡ Some 10
  pub begins : (place ≡ 0) ⊎ (slice_get text (place - 1) ≡ Some 10)

abbrev pub HasNoEmptyLine : List ℕ → Type 0
HasNoEmptyLine text = (place : ℕ) → IsEmptyLine text place → ⊥

-- the first empty line stands between the texts: the text for declarer's side goes to the end of the line before it
pub record IsCut (body declarers defenders : List ℕ) : Type 0 where
  pub is : body ≡ declarers ++ ascii.line_feed ∷ defenders
  pub empty : IsEmptyLine body (length declarers)
  pub first : HasNoEmptyLine declarers

-- no line is empty, and the text for the defenders has no bytes
pub record IsUncut (body declarers defenders : List ℕ) : Type 0 where
  pub none : HasNoEmptyLine body
  pub all : declarers ≡ body
  pub nothing : defenders ≡ []

-- the text is an answer: so many tricks, the text for declarer's side, and that for the defenders
pub record IsAnswer (text : List ℕ) (tricks : ℕ) (declarers defenders : List ℕ) : Type 0 where
  pub few : tricks ≤ 13
  pub body : List ℕ
  pub line : text ≡ result_text tricks body
  pub parts : IsCut body declarers defenders ⊎ IsUncut body declarers defenders

-- its first line is that of no result
abbrev pub LacksResult : List ℕ → Type 0
LacksResult text = (tricks : ℕ) (body : List ℕ) → tricks ≤ 13 → text ≢ result_text tricks body
