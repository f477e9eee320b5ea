-- What is kept of an answer.
use Rattle.std.specs.Prelude.{◌≡◌, ℕ, ◌<◌, ◌≤◌, Bool, true, false, List, [], ◌∷◌, ◌++◌, length, ◌⊎◌, ⊤}
use Rattle.std.specs.Prelude.{Option, None, Some, Result, Ok, Err}
use Rattle.std.proofs.Common.{Vec, Global}
use Rattle.evidence.specs.Sections.{SectionShape, IsSection}
use Rattle.evidence.specs.SectionTexts.{section_text, IsTextOf}
use Rattle.evidence.specs.Pieces.{greatest_length}
use Rattle.evidence_solvers.specs.declared.faults.KeepFault.{KeepFault}
use Rattle.evidence_solvers.specs.declared.faults.KeepFault.TheVariants.{OutOfMemory, TooLong, Write}

-- The text of the section. An answer without claims has nothing to be kept. Otherwise there is no text if it is no
-- section, if its text is too long to be read again, or if memory ran out.
abbrev pub IsKeptText : SectionShape → Result (Option (Vec ℕ Global)) KeepFault → Type 0
IsKeptText section (Ok None) = section.claims ≡ []
IsKeptText section (Ok (Some text)) = IsTextOf text.items section × (length text.items ≤ greatest_length)
IsKeptText section (Err OutOfMemory) = ⊤
IsKeptText section (Err TooLong) = (IsSection section → ⊥) ⊎ (greatest_length < length (section_text section))
IsKeptText section (Err Write) = ⊥

-- whether there is a text
abbrev pub is_text : Result (Option (Vec ℕ Global)) KeepFault → Bool
is_text (Ok None) = false
is_text (Ok (Some text)) = true
is_text (Err fault) = false

-- a section whose text is not too long to be read again
abbrev pub IsShort : SectionShape → Type 0
IsShort section = IsSection section × (length (section_text section) ≤ greatest_length)

abbrev pub AreShort : List SectionShape → Type 0
AreShort [] = ⊤
AreShort (section ∷ more) = IsShort section × AreShort more

-- the texts of sections, one after the other
abbrev pub texts_of : List SectionShape → List ℕ
texts_of [] = []
texts_of (section ∷ more) = section_text section ++ texts_of more
