-- Laws of sections of cards and their texts.
use Rattle.std.specs.Prelude.{◌≡◌, ℕ, List, Option, Some}
use Rattle.card_evidence.specs.Sections.{CardSectionShape, IsCardSection}
use Rattle.card_evidence.specs.SectionTexts.{card_section_text, IsTextOf}
use Rattle.card_evidence.specs.Readings.{SaysCardSection}

-- each section has a text, and no other
abbrev pub EachSectionHasOneText : Type 0
EachSectionHasOneText =
    (section : CardSectionShape) → IsCardSection section
    → (text : List ℕ) × IsTextOf text section × ((other : List ℕ) → IsTextOf other section → other ≡ text)

-- no text is that of two sections
abbrev pub NoTextHasTwoSections : Type 0
NoTextHasTwoSections =
    (text : List ℕ) (one other : CardSectionShape) → IsTextOf text one → IsTextOf text other → one ≡ other

-- what is written of a section is read back as that section
abbrev pub SectionsAreReadBack : Type 0
SectionsAreReadBack =
    (section : CardSectionShape) → IsCardSection section
    → SaysCardSection (card_section_text section) (Some section)
    × ((said : Option CardSectionShape) → SaysCardSection (card_section_text section) said → said ≡ Some section)
