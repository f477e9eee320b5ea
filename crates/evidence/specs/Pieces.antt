-- The pieces of a whole text. It is cut at the lines `DDE 1`: a piece goes from one of them, or from the beginning of
-- the text, to the next or to the end.
use Rattle.std.specs.Prelude.{◌≡◌, ℕ, ◌+◌, ◌-◌, ◌^◌, ◌<◌, ◌≤◌, min, List, [], ◌∷◌, ◌++◌, length, ◌⊎◌, ⊤}
use Rattle.std.specs.Prelude.{Option, None, Some}
use Rattle.cards.specs.Devices.{Device, TakesWhereTold, StaysWhereTold, NoneIsLeft}
use Rattle.streams.specs.Inputs.{StopsReading}
use Rattle.streams.specs.declared.inputs.InputFault.{InputFault}
use Rattle.streams.specs.declared.inputs.InputFault.TheVariants.{Read}
use Rattle.evidence.specs.declared.parts.Part.{Part}
use Rattle.evidence.specs.declared.parts.Part.TheVariants.{Found, Damaged, End}
use Rattle.memchr.specs.Find.{OccursAt}
use Rattle.evidence.specs.Sections.{SectionShape}
use Rattle.evidence.specs.SectionTexts.{title, IsTextOf}
use Rattle.cards.specs.Bytes as ascii

-- what stands where two pieces meet: the end of a line, and a title
abbrev pub border : List ℕ
border = ascii.line_feed ∷ title

-- the piece ends where the first title stands behind the end of a line
pub record EndsAtTitle (text piece rest : List ℕ) : Type 0 where
  pub whole : text ≡ piece ++ rest
  pub some : 1 ≤ length piece
  pub here : OccursAt text border (length piece - 1)
  pub first : (place : ℕ) → place < length piece - 1 → OccursAt text border place → ⊥

-- there is no such title, and the piece is all of a text that is not empty
pub record EndsWithText (text piece rest : List ℕ) : Type 0 where
  pub whole : text ≡ piece
  pub some : 1 ≤ length piece
  pub nothing : rest ≡ []
  pub none : (place : ℕ) → OccursAt text border place → ⊥

-- the first piece of a text, and what stands behind it
abbrev pub IsFirstPiece : List ℕ → List ℕ → List ℕ → Type 0
IsFirstPiece text piece rest = EndsAtTitle text piece rest ⊎ EndsWithText text piece rest

-- the most bytes that the text of a section may have: 512 MiB
abbrev pub greatest_length : ℕ
greatest_length = 536870912

-- the piece is of this section
abbrev pub IsFound : List ℕ → SectionShape → Type 0
IsFound piece section = (length piece ≤ greatest_length) × IsTextOf piece section

-- the piece is of no section, or too long
abbrev pub IsDamaged : List ℕ → Type 0
IsDamaged piece = (greatest_length < length piece) ⊎ ((section : SectionShape) → IsTextOf piece section → ⊥)

-- ---- what is read of a source
-- what is left of a text: bytes that were read and not handed on, and those left in the source, where it tells them
abbrev pub left_of : List ℕ → Option (List ℕ) → Option (List ℕ)
left_of held None = None
left_of held (Some left) = Some (held ++ left)

-- a reading: what is left of the text, where the source tells it, how many bytes stand before that, and how many calls
-- of the source have failed
pub record Reading : Type 0 where
  pub left : Option (List ℕ)
  pub before : ℕ
  pub failed : ℕ

abbrev pub reading_of : Device → List ℕ → ℕ → Reading
reading_of device held before = record { left = left_of held device.bytes; before = before; failed = device.failed }

-- the piece is the first of what was left, and what stands behind it is left now
abbrev pub IsFirstWhereTold : Option (List ℕ) → Option (List ℕ) → List ℕ → Type 0
IsFirstWhereTold None left' piece = ⊤
IsFirstWhereTold (Some left) left' piece = (rest : List ℕ) × (left' ≡ Some rest) × IsFirstPiece left piece rest

-- a piece was passed of which this holds; the count of bytes stops at its greatest value
pub record Passes (old new : Reading) (Holds : List ℕ → Type 0) : Type 0 where
  pub piece : List ℕ
  pub first : IsFirstWhereTold old.left new.left piece
  pub holds : Holds piece
  pub counted : new.before ≡ min (old.before + length piece) (2 ^ 64 - 1)
  pub none_failed : new.failed ≡ old.failed

-- nothing is left, and nothing changed
pub record IsAtEnd (old new : Reading) : Type 0 where
  pub none : NoneIsLeft old.left
  pub left_is : StaysWhereTold old.left new.left
  pub before_is : new.before ≡ old.before
  pub none_failed : new.failed ≡ old.failed

-- so many bytes were read that the reading was given up
pub record IsGivenUp (old new : Device) (fault : InputFault) : Type 0 where
  pub fault_is : fault ≡ Read
  pub taken : List ℕ
  pub first : TakesWhereTold old.bytes new.bytes taken
  pub many : 2 ^ 64 - 1 ≤ length taken

-- the bytes that were read are lost: a call of the source failed and is counted, memory ran out, or it was given up
abbrev pub StopsSections : Device → Device → InputFault → Type 0
StopsSections old new fault = StopsReading old new fault ⊎ IsGivenUp old new fault

-- what comes next, of the piece that was passed
abbrev pub IsNext : Reading → Reading → Part → Type 0
IsNext old new (Found section) = Passes old new (λ piece. IsFound piece section)
IsNext old new (Damaged at) = (at ≡ old.before) × Passes old new IsDamaged
IsNext old new End = IsAtEnd old new
