-- The tables that evidence shows.
use Rattle.std.specs.Prelude.{◌≡◌, ℕ, List, Result, Ok, Err}
use Rattle.std.proofs.Common.{Vec, Global}
use Rattle.cards.specs.Devices.{Device, one_more}
use Rattle.pbn_deals.specs.declared.boards.Board.{Board}
use Rattle.pbn_deals.specs.Reading.{TextAnswers}
use Rattle.streams.specs.Inputs.{IsReadToEnd, Loses}
use Rattle.streams.specs.RunStreams.{Devices}
use Rattle.streams.specs.declared.inputs.InputFault.{InputFault}
use Rattle.streams.specs.declared.inputs.InputFault.TheVariants as stops
use Rattle.lease_book.specs.declared.events.Event.{Event}
use Rattle.lease_book.specs.Books.{Ledger}
use Rattle.lease_book.specs.Histories.{Terms}
use Rattle.lease_book.specs.TrueHistories.{IsTrueHistory}
use Rattle.tables.specs.declared.results.Report.{Report}
use Rattle.tournaments.specs.declared.faults.MakeFault.TheVariants.{OutOfMemory, Read, Pbn, NoThread, Write}
use Rattle.tournaments.specs.Making.{PageFact, HasBoards, FillsPage, BeginsPage}
use Rattle.evidence.specs.declared.parts.Part.{Part}
use Rattle.evidence.specs.Sections.{SectionShape}
use Rattle.evidence.specs.Pieces.{StopsSections}
use Rattle.evidence.specs.Wholes.{Whole}
use Rattle.evidence.specs.declared.damages.Damage.{Damage}
use Rattle.audits.specs.declared.faults.AuditFault.{AuditFault}
use Rattle.audits.specs.declared.faults.AuditFault.TheVariants.{Page, Evidence}
use Rattle.audits.specs.Reads.{sections_of, as_source, ReadsAll}
use Rattle.audits.specs.Shown.{PublishesShown}

-- A history of the boards whose numbers are double-dummy values, and are those that the sections show: for each entry
-- that of the first section that shows one for its deal, declarer and denomination, and none where no section does.
pub record IsAudit (sections : List SectionShape) (terms : Terms) (events : List Event) : Type 0 where
  pub history : IsTrueHistory terms events
  pub published : PublishesShown terms.boards sections events

-- the term and the tries of an audit's book
abbrev pub audit_terms : List Board → Terms
audit_terms boards = record { boards = boards; term = 1; tries = 1 }

-- the evidence was read to its end, and the book is one over the boards after the audit of its sections
pub record AuditsBoards (boards : List Board) (evidence evidence' : Whole) (book : Ledger) (damage : Damage)
    : Type 0 where
  pub parts : List Part
  pub read : ReadsAll evidence evidence' parts damage
  pub terms_are : book.terms ≡ audit_terms boards
  pub audit : IsAudit (sections_of parts) (audit_terms boards) book.events

-- or it stopped, and what was read of the evidence is lost
abbrev pub AuditsOrStops : List Board → Whole → Whole → Result (Ledger × Damage) InputFault → Type 0
AuditsOrStops boards evidence evidence' (Ok (book, damage)) = AuditsBoards boards evidence evidence' book damage
AuditsOrStops boards evidence evidence' (Err fault) = StopsSections (as_source evidence) evidence'.source fault

-- ---- the boards, and then the evidence
-- the source was read to its end, these are the boards of its text, and the book is one over them after the audit
pub record AuditsText (source source' : Device) (evidence evidence' : Whole) (text : List ℕ) (book : Ledger)
    (damage : Damage)
    : Type 0 where
  pub all : IsReadToEnd source source' text
  pub boards : List Board
  pub read : TextAnswers text (Ok boards)
  pub audits : AuditsBoards boards evidence evidence' book damage

-- Why there is no such book, and what both sources have given. The evidence is not touched before the boards are read.
abbrev pub IsHalted : Device → Device → Whole → Whole → AuditFault → Type 0
IsHalted source source' evidence evidence' (Page OutOfMemory) =
    Loses source source' source.failed × StopsSections (as_source evidence) evidence'.source stops.OutOfMemory
IsHalted source source' evidence evidence' (Page Read) =
    Loses source source' (one_more source.failed) × (evidence' ≡ evidence)
IsHalted source source' evidence evidence' (Page (Pbn fault)) =
    (text : List ℕ) × IsReadToEnd source source' text × TextAnswers text (Err fault) × (evidence' ≡ evidence)
IsHalted source source' evidence evidence' (Page NoThread) = ⊥
IsHalted source source' evidence evidence' (Page Write) = ⊥
IsHalted source source' evidence evidence' Evidence =
    (boards : List Board) × HasBoards source source' boards
    × StopsSections (as_source evidence) evidence'.source stops.Read

abbrev pub AuditsOrHalts : Device → Device → Whole → Whole
    → Result (Vec ℕ Global × Ledger × Damage) AuditFault → Type 0
AuditsOrHalts source source' evidence evidence' (Ok (text, book, damage)) =
    AuditsText source source' evidence evidence' text.items book damage
AuditsOrHalts source source' evidence evidence' (Err fault) = IsHalted source source' evidence evidence' fault

-- ---- the page
-- the evidence was read to its end, and the page was written after the audit of its sections
pub record FillsFromEvidence (is_page : PageFact) (old new : Devices) (evidence evidence' : Whole) (report : Report)
    (book : Ledger) (damage : Damage)
    : Type 0 where
  pub parts : List Part
  pub read : ReadsAll evidence evidence' parts damage
  pub page : FillsPage (IsAudit (sections_of parts)) is_page 1 1 old new report book

-- a beginning of it was, before the sink failed
pub record BeginsFromEvidence (is_page : PageFact) (old new : Devices) (evidence evidence' : Whole) : Type 0 where
  pub parts : List Part
  pub damage : Damage
  pub read : ReadsAll evidence evidence' parts damage
  pub page : BeginsPage (IsAudit (sections_of parts)) is_page 1 1 old new

-- What was answered, what both sources have given and what the sink has got. With all refusals but that of a sink that
-- failed nothing was written.
abbrev pub AuditsTables : PageFact → Devices → Devices → Whole → Whole
    → Result (Report × Ledger × Damage) AuditFault → Type 0
AuditsTables is_page old new evidence evidence' (Ok (report, book, damage)) =
    FillsFromEvidence is_page old new evidence evidence' report book damage
AuditsTables is_page old new evidence evidence' (Err (Page Write)) =
    BeginsFromEvidence is_page old new evidence evidence'
AuditsTables is_page old new evidence evidence' (Err fault) =
    IsHalted old.source new.source evidence evidence' fault × (new.sink ≡ old.sink)
