-- A whole text has one row of parts, and texts are joined part by part.
use Rattle.std.specs.Prelude.{◌≡◌, ℕ, ◌+◌, ◌-◌, ◌≤◌, List, [], ◌∷◌, ◌++◌, length, slice_index, ◌⊎◌}
use Rattle.evidence.specs.Sections.{SectionShape, IsSection}
use Rattle.evidence.specs.SectionTexts.{title, section_text}
use Rattle.evidence.specs.declared.parts.Part.{Part}
use Rattle.evidence.specs.declared.parts.Part.TheVariants.{Found}
use Rattle.evidence.specs.Pieces.{greatest_length}
use Rattle.evidence.specs.Parts.{AreParts}

-- a text has one row of parts at most
abbrev pub TextsHaveOneRow : Type 0
TextsHaveOneRow =
    (text : List ℕ) (one other : List Part) → AreParts 0 text one → AreParts 0 text other → one ≡ other

-- the text ends with the end of a line, or is empty
abbrev pub EndsLine : List ℕ → Type 0
EndsLine text = (text ≡ []) ⊎ (slice_index text (length text - 1) ≡ 10)

abbrev pub BeginsTitle : List ℕ → Type 0
BeginsTitle text = (after : List ℕ) × (text ≡ title ++ after)

-- the text of a section, where it isn't too long, is that one part
abbrev pub SectionsAreParts : Type 0
SectionsAreParts =
    (at : ℕ) (section : SectionShape) → IsSection section → length (section_text section) ≤ greatest_length
    → AreParts at (section_text section) (Found section ∷ [])

-- where a text that ends a line goes before one that begins with a title, the parts of both are those of each
abbrev pub PartsAreJoined : Type 0
PartsAreJoined =
    (at : ℕ) (text other : List ℕ) (parts others : List Part) → EndsLine text → BeginsTitle other
    → AreParts at text parts → AreParts (at + length text) other others
    → AreParts at (text ++ other) (parts ++ others)
