-- Pieces of evidence that are read a batch at a time.
use Rattle.std.specs.Prelude.{◌≡◌, ℕ, ◌≤◌, true, List, [], ◌∷◌, ◌++◌, length, min, ◌-◌, ◌^◌, ⊤, Bool}
use Rattle.std.specs.List.{AllZip}
use Rattle.std.specs.Prelude.{Option, None, Some, is_some, Result, Ok, Err, slice_index_or, take}
use Rattle.checker.specs.declared.entries.Shown.{Shown}
use Rattle.pbn_deals.specs.declared.boards.Board.{Board}
use Rattle.lease_book.specs.Histories.{deal_of}
use Rattle.lease_book.specs.Twins.{is_first}
use Rattle.streams.specs.declared.inputs.InputFault.{InputFault}
use Rattle.streams.specs.declared.inputs.InputFault.TheVariants.{OutOfMemory}
use Rattle.evidence.specs.declared.parts.Part.{Part}
use Rattle.evidence.specs.declared.parts.Part.TheVariants as part
use Rattle.evidence.specs.declared.parts.Piece.{Piece}
use Rattle.evidence.specs.declared.damages.Damage.{Damage}
use Rattle.evidence.specs.Cuts.{IsNextCutOf}
use Rattle.evidence.specs.Damages.{IsDamageOf}
use Rattle.evidence.specs.Parts.{IsPartOf}
use Rattle.evidence.specs.Pieces.{StopsSections}
use Rattle.evidence.specs.Sections.{SectionShape}
use Rattle.evidence.specs.Wholes.{Whole}
use Rattle.audits.specs.Firsts.{AreShownBy, AddsSection}
use Rattle.audits.specs.declared.judging.Judged.{Judged}
use Rattle.audits.specs.declared.judging.Judged.TheVariants.{Shows, Passed, Damaged, NoMemory}

-- ---- pieces that are cut
-- these pieces were cut one after another
abbrev pub Cuts : Whole → List Piece → Whole → Type 0
Cuts old [] new = new ≡ old
Cuts old (piece ∷ more) new = (middle : Whole) × IsNextCutOf old middle (Some piece) × Cuts middle more new

-- more may be left, all was cut, or reading stopped
abbrev pub EndsBatch : Whole → Whole → Option (Result Unit InputFault) → Type 0
EndsBatch middle new None = new ≡ middle
EndsBatch middle new (Some (Ok done)) = IsNextCutOf middle new None
EndsBatch middle new (Some (Err fault)) = StopsSections middle.source new.source fault

pub record ReadsBatch (old new : Whole) (pieces : List Piece) (ended : Option (Result Unit InputFault)) : Type 0 where
  pub middle : Whole
  pub cuts : Cuts old pieces middle
  pub ends : EndsBatch middle new ended
  pub some : ended ≡ None → 1 ≤ length pieces

-- after a batch that ended like this: the next one was read, or nothing more
abbrev pub ReadsBehind : Option (Result Unit InputFault) → Whole → Whole → List Piece
    → Option (Result Unit InputFault) → Type 0
ReadsBehind None old new pieces ended = ReadsBatch old new pieces ended
ReadsBehind (Some how) old new pieces ended = (new ≡ old) × (pieces ≡ []) × (ended ≡ Some how)

-- ---- what a piece shows
-- each place that had a value has one
abbrev pub Grows : List (Option Shown) → List (Option Shown) → Type 0
Grows old new =
    (place : ℕ) → is_some (slice_index_or old place None) ≡ true → is_some (slice_index_or new place None) ≡ true

-- What a section shows, or that it adds nothing from now on; memory may have run out.
abbrev pub JudgesSection : List Board → List (Option Shown) → SectionShape → Judged → Type 0
JudgesSection boards firsts section (Shows board proofs) =
    (deal_of boards board ≡ Some section.deal) × (is_first boards board ≡ true) × AreShownBy section proofs.items
JudgesSection boards firsts section Passed =
    (later : List (Option Shown)) → Grows firsts later → AddsSection boards section later later
JudgesSection boards firsts section (Damaged at) = ⊥
JudgesSection boards firsts section NoMemory = ⊤

-- the piece is this part
abbrev pub IsPieceOf : Piece → Part → Type 0
IsPieceOf piece part = IsPartOf piece.is_long piece.at piece.bytes.items part

abbrev pub Judges : List Board → List (Option Shown) → Piece → Judged → Type 0
Judges boards firsts piece (Shows board proofs) =
    (section : SectionShape) × IsPieceOf piece (part.Found section)
    × JudgesSection boards firsts section (Shows board proofs)
Judges boards firsts piece Passed =
    (section : SectionShape) × IsPieceOf piece (part.Found section) × JudgesSection boards firsts section Passed
Judges boards firsts piece (Damaged at) = IsPieceOf piece (part.Damaged at)
Judges boards firsts piece NoMemory = ⊤

-- each piece shows what is said of it
abbrev pub AreJudged : List Board → List (Option Shown) → List Piece → List Judged → Type 0
AreJudged boards firsts pieces judged = AllZip (Judges boards firsts) pieces judged

-- ---- pieces that are noted
-- what a part adds to the first values, and to the damage
abbrev pub AddsPart : List Board → Part → List (Option Shown) → List (Option Shown) → Damage → Damage → Type 0
AddsPart boards (part.Found section) old new damage damage' = AddsSection boards section old new × (damage' ≡ damage)
AddsPart boards (part.Damaged at) old new damage damage' =
    (new ≡ old)
    × ((damaged : List ℕ) (byte : ℕ) → min at (2 ^ 64 - 1) ≡ min byte (2 ^ 64 - 1) → IsDamageOf damaged damage
    → IsDamageOf (damaged ++ byte ∷ []) damage')
AddsPart boards part.End old new damage damage' = ⊥

pub record NotesPiece (boards : List Board) (piece : Piece) (old new : List (Option Shown)) (damage damage' : Damage)
    : Type 0 where
  pub part : Part
  pub part_is : IsPieceOf piece part
  pub adds : AddsPart boards part old new damage damage'

-- pieces are noted one after another
abbrev pub NotesPieces : List Board → List Piece → List (Option Shown) → List (Option Shown) → Damage → Damage → Type 0
NotesPieces boards [] old new damage damage' = (new ≡ old) × (damage' ≡ damage)
NotesPieces boards (piece ∷ more) old new damage damage' =
    (middle : List (Option Shown)) × (between : Damage) × NotesPiece boards piece old middle damage between
    × NotesPieces boards more middle new between damage'

-- the first of some pieces were noted, or all of them
pub record NotesSome (boards : List Board) (pieces : List Piece) (old new : List (Option Shown))
    (damage damage' : Damage) (all : Bool)
    : Type 0 where
  pub count : ℕ
  pub notes : NotesPieces boards (take count pieces) old new damage damage'
  pub whole : all ≡ true → count ≡ length pieces

-- the fault that is named, if memory ran out for a piece
abbrev pub fault_behind : Option (Result Unit InputFault) → InputFault
fault_behind None = OutOfMemory
fault_behind (Some (Ok done)) = OutOfMemory
fault_behind (Some (Err fault)) = fault
