-- Sections that were added to what a file held.
use Rattle.std.specs.Prelude.{◌≡◌, ℕ, Bool, true, false, List, ◌++◌, Option, Some, Result, Ok, Err, All}
use Rattle.std.proofs.Common.{Vec, Global}
use Rattle.cards.specs.Deal.{Deal}
use Rattle.cards.specs.Devices.{AddsWhereTold}
use Rattle.cards.specs.declared.seats.Seat.{Seat}
use Rattle.cards.specs.declared.suits.Trump.{Trump}
use Rattle.certificate_graph.specs.Solvers.{MayFind}
use Rattle.certificate_graph.specs.declared.bundles.Bundle.{Bundle}
use Rattle.lease_book.specs.declared.events.Event.{Event}
use Rattle.evidence.specs.Sections.{SectionShape, kept_of}
use Rattle.evidence_solvers.specs.declared.claims.KeptClaim.{KeptClaim}
use Rattle.evidence_solvers.specs.declared.tails.Tail.{Tail}
use Rattle.evidence_solvers.specs.declared.faults.KeepFault.{KeepFault}
use Rattle.evidence_solvers.specs.declared.faults.KeepFault.TheVariants.{OutOfMemory, TooLong, Write}
use Rattle.evidence_solvers.specs.Claims.{AreBacked, IsClaimedIn}
use Rattle.evidence_solvers.specs.Kept.{AreShort, texts_of}
use Rattle.evidence_solvers.specs.Tails.{AddsText}

-- which sections may be added
abbrev pub MayBe : Type 1
MayBe = SectionShape → Type 0

-- ---- answers
-- the section is that of an answer which a solver may find for its deal and denomination
pub record IsAnswered (may_find : MayFind) (section : SectionShape) : Type 0 where
  pub declarers : List Seat
  pub budget : ℕ
  pub bundle : Bundle
  pub found : may_find section.deal declarers section.trump budget (Some bundle)
  pub section_is : section ≡ kept_of section.deal section.trump bundle

-- the section of each answer that a solver may find may be added
pub record Covers (may_find : MayFind) (may_be : MayBe) : Type 0 where
  pub each : (deal : Deal) (declarers : List Seat) (trump : Trump) (budget : ℕ) (bundle : Bundle)
      → may_find deal declarers trump budget (Some bundle)
      → may_be (kept_of deal trump bundle)

-- ---- what a file has
-- the file has what it held, and after that the whole texts of these sections, each of which may be added
pub record HasSections (may_be : MayBe) (told now : Option (List ℕ)) (sections : List SectionShape) : Type 0 where
  pub short : AreShort sections
  pub may : All may_be sections
  pub adds : AddsWhereTold told now (texts_of sections)

-- such sections were added, and these claims are theirs
pub record AddsSections (may_be : MayBe) (told now : Option (List ℕ)) (claims : List KeptClaim) : Type 0 where
  pub sections : List SectionShape
  pub has : HasSections may_be told now sections
  pub claimed : All (IsClaimedIn sections) claims

-- the file has what it held, and after that a beginning of the texts of sections that may be added
pub record AddsBeginning (may_be : MayBe) (told now : Option (List ℕ)) : Type 0 where
  pub sections : List SectionShape
  pub taken : List ℕ
  pub rest : List ℕ
  pub short : AreShort sections
  pub may : All may_be sections
  pub texts_are : texts_of sections ≡ taken ++ rest
  pub adds : AddsWhereTold told now taken

-- the first, or the second if a write or a sync has failed
abbrev pub IsAdded : MayBe → Option (List ℕ) → Option (List ℕ) → Bool → List KeptClaim → Type 0
IsAdded may_be told now false claims = AddsSections may_be told now claims
IsAdded may_be told now true claims = AddsBeginning may_be told now

-- A text went to the end of a file: all of it, or a part, which is noted, or nothing, if something had failed before or
-- there is no text. That memory ran out for its claims changes neither the file nor what has failed.
pub record WasAdded {F : Type 0} (contents : F → Option (List ℕ)) (old new : Tail F)
    (text : Result (Option (Vec ℕ Global)) KeepFault)
    : Type 0 where
  pub between : Tail F
  pub adds : AddsText contents old between text
  pub file_is : new.file ≡ between.file
  pub failed_is : new.has_failed ≡ between.has_failed

-- ---- the end
-- the sections that were added are whole, and one of them claims each number that these events published
pub record AddsForAll (may_be : MayBe) (told now : Option (List ℕ)) (events : List Event) : Type 0 where
  pub sections : List SectionShape
  pub has : HasSections may_be told now sections
  pub backed : AreBacked sections events

pub record AddsSome (may_be : MayBe) (told now : Option (List ℕ)) : Type 0 where
  pub sections : List SectionShape
  pub has : HasSections may_be told now sections

-- What a file has at the end, by what is said of it. If a section was left out, the others are whole.
abbrev pub IsKeptFor : MayBe → Option (List ℕ) → List Event → Option (List ℕ) → Result Unit KeepFault → Type 0
IsKeptFor may_be told events now (Ok done) = AddsForAll may_be told now events
IsKeptFor may_be told events now (Err OutOfMemory) = AddsSome may_be told now
IsKeptFor may_be told events now (Err TooLong) = AddsSome may_be told now
IsKeptFor may_be told events now (Err Write) = AddsBeginning may_be told now
