-- Laws of the sections that are added to a text.
use Rattle.std.specs.Prelude.{ℕ, List, [], ◌∷◌, ◌++◌}
use Rattle.evidence.specs.Sections.{SectionShape}
use Rattle.evidence.specs.Parts.{AreParts}
use Rattle.evidence_laws.specs.Parts.{EndsLine}
use Rattle.evidence.specs.declared.parts.Part.{Part}
use Rattle.evidence.specs.declared.parts.Part.TheVariants.{Found}
use Rattle.evidence_solvers.specs.Kept.{AreShort, texts_of}

-- sections as parts of a text
abbrev pub found_of : List SectionShape → List Part
found_of [] = []
found_of (section ∷ more) = Found section ∷ found_of more

-- if sections are added to a text that ends a line, the parts are those of the text, and then the sections
abbrev pub AddedSectionsAreParts : Type 0
AddedSectionsAreParts =
    (text : List ℕ) (parts : List Part) (sections : List SectionShape) → EndsLine text → AreParts 0 text parts
    → AreShort sections → AreParts 0 (text ++ texts_of sections) (parts ++ found_of sections)
