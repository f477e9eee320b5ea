-- Laws of sections and their texts.
use Rattle.std.specs.Prelude.{◌≡◌, ℕ, List, Option, Some}
use Rattle.evidence.specs.Sections.{SectionShape, IsSection}
use Rattle.evidence.specs.SectionTexts.{section_text, IsTextOf}
use Rattle.evidence.specs.Readings.{SaysSection}

-- each section has a text, and no other
abbrev pub EachSectionHasOneText : Type 0
EachSectionHasOneText =
    (section : SectionShape) → IsSection section
    → (text : List ℕ) × IsTextOf text section × ((other : List ℕ) → IsTextOf other section → other ≡ text)

-- no text is that of two sections
abbrev pub NoTextHasTwoSections : Type 0
NoTextHasTwoSections =
    (text : List ℕ) (one other : SectionShape) → IsTextOf text one → IsTextOf text other → one ≡ other

-- what is written of a section is read back as that section
abbrev pub SectionsAreReadBack : Type 0
SectionsAreReadBack =
    (section : SectionShape) → IsSection section
    → SaysSection (section_text section) (Some section)
    × ((said : Option SectionShape) → SaysSection (section_text section) said → said ≡ Some section)
