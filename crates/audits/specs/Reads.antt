-- What is read of a whole text of evidence: its parts, of which some are sections and the others are damaged.
use Rattle.std.specs.Prelude.{◌≡◌, ℕ, ◌+◌, List, [], ◌∷◌, length, All, Option, None, Some}
use Rattle.std.specs.Prelude.{Result, Ok, Err}
use Rattle.cards.specs.Devices.{Device}
use Rattle.evidence.specs.Sections.{SectionShape}
use Rattle.evidence.specs.declared.parts.Part.{Part}
use Rattle.evidence.specs.declared.parts.Part.TheVariants.{Found, Damaged, End}
use Rattle.evidence.specs.Pieces.{left_of, IsFirstPiece, StopsSections}
use Rattle.streams.specs.declared.inputs.InputFault.{InputFault}
use Rattle.evidence.specs.Parts.{IsPart, AreParts}
use Rattle.evidence.specs.Wholes.{Whole}
use Rattle.evidence.specs.declared.damages.Damage.{Damage}
use Rattle.evidence.specs.Damages.{damaged_of, IsDamageOf}

-- ---- parts
-- the sections among some parts
abbrev pub sections_of : List Part → List SectionShape
sections_of [] = []
sections_of (Found section ∷ more) = section ∷ sections_of more
sections_of (Damaged at ∷ more) = sections_of more
sections_of (End ∷ more) = sections_of more

-- ---- a reading to the end
-- what is left of a whole text, as a source tells it: the bytes that are held, and those of the source
abbrev pub as_source : Whole → Device
as_source whole = record { bytes = left_of whole.held whole.source.bytes; failed = whole.source.failed }

-- a section, or damage, of some text
abbrev pub IsAnyPart : Part → Type 0
IsAnyPart part = (at : ℕ) × (piece : List ℕ) × IsPart at piece part

-- these are the parts of all that was left, which begins at this byte, and nothing is left now; where the source
-- doesn't tell its bytes they are parts of some text
abbrev pub AreAllParts : ℕ → Option (List ℕ) → Option (List ℕ) → List Part → Type 0
AreAllParts at None left' parts = All IsAnyPart parts
AreAllParts at (Some left) left' parts = AreParts at left parts × (left' ≡ Some [])

-- the text begins at this byte and with these parts, and this is left behind them
abbrev pub AreFirstParts : ℕ → List ℕ → List Part → List ℕ → Type 0
AreFirstParts at text [] rest = rest ≡ text
AreFirstParts at text (part ∷ more) rest =
    (piece : List ℕ) × (behind : List ℕ) × IsFirstPiece text piece behind × IsPart at piece part
    × AreFirstParts (at + length piece) behind more rest

-- these are parts of a beginning of what was left, which begins at this byte; where the source doesn't tell its bytes
-- they are parts of some text
abbrev pub AreSomeParts : ℕ → Option (List ℕ) → List Part → Type 0
AreSomeParts at None parts = All IsAnyPart parts
AreSomeParts at (Some left) parts = (rest : List ℕ) × AreFirstParts at left parts rest

-- the text was read to its end: these are its parts, this is its damage, and no call of the source failed
pub record ReadsAll (old new : Whole) (parts : List Part) (damage : Damage) : Type 0 where
  pub parts_are : AreAllParts old.before (as_source old).bytes (as_source new).bytes parts
  pub damage_is : IsDamageOf (damaged_of parts) damage
  pub none_failed : new.source.failed ≡ old.source.failed

-- these parts were read, which have this damage, and then reading stopped
pub record ReadsBeginning (old new : Whole) (parts : List Part) (damage : Damage) (fault : InputFault) : Type 0 where
  pub parts_are : AreSomeParts old.before (as_source old).bytes parts
  pub damage_is : IsDamageOf (damaged_of parts) damage
  pub stops : StopsSections (as_source old) new.source fault

-- all of the text was read, or a beginning of it
abbrev pub ReadsUntil : Whole → Whole → List Part → Damage → Result Unit InputFault → Type 0
ReadsUntil old new parts damage (Ok done) = ReadsAll old new parts damage
ReadsUntil old new parts damage (Err fault) = ReadsBeginning old new parts damage fault
