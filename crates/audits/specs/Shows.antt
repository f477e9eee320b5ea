-- A book in which what evidence shows is published.
use Rattle.std.specs.Prelude.{◌≡◌, ℕ, ◌≤◌, true, List, [], Option}
use Rattle.checker.specs.declared.entries.Shown.{Shown}
use Rattle.pbn_deals.specs.declared.boards.Board.{Board}
use Rattle.lease_book.specs.declared.entries.Entry.{Entry}
use Rattle.lease_book.specs.Books.{Ledger}
use Rattle.lease_book.specs.Entries.{place_of}
use Rattle.lease_book.specs.Histories.{held_after, times_leased}
use Rattle.lease_book.specs.Twins.{is_first}
use Rattle.streams.specs.declared.inputs.InputFault.{InputFault}
use Rattle.evidence.specs.declared.parts.Part.{Part}
use Rattle.evidence.specs.Pieces.{StopsSections}
use Rattle.evidence.specs.Wholes.{Whole}
use Rattle.evidence.specs.Sections.{SectionShape}
use Rattle.lease_book.specs.Settling.{AreSettledOnce}
use Rattle.lease_book.specs.Moments.{AreTimed}
use Rattle.audits.specs.Reads.{sections_of, as_source, ReadsUntil}
use Rattle.audits.specs.Shown.{PublishesShown}
use Rattle.audits.specs.Firsts.{AreFirstShown}
use Rattle.audits.specs.declared.reading.EvidenceRead.{EvidenceRead}

-- the evidence was read so far, and these are the first values of its sections
pub record ReadsFirsts (boards : List Board) (evidence evidence' : Whole) (firsts : List (Option Shown))
    (read : EvidenceRead)
    : Type 0 where
  pub parts : List Part
  pub read_is : ReadsUntil evidence evidence' parts read.damage read.ended
  pub firsts_are : AreFirstShown boards (sections_of parts) firsts

-- What sections show is published in a new book. Each entry of a board that is the first with its deal was leased
-- exactly once, and no entry more than once. All leases were given at this moment. No lease was settled twice, and none
-- is held.
pub record ShowsSections (old new : Ledger) (now : ℕ) (sections : List SectionShape) : Type 0 where
  pub terms_are : new.terms ≡ old.terms
  pub published : PublishesShown new.terms.boards sections new.events
  pub settled : AreSettledOnce new.events
  pub none_held : held_after new.events ≡ []
  pub timed : AreTimed (λ moment. moment ≡ now) new.events
  pub leased : (entry : Entry) → is_first new.terms.boards entry.board ≡ true
      → times_leased new.events (place_of entry) ≡ 1
  pub leased_once : (place : ℕ) → times_leased new.events place ≤ 1

-- Evidence was read, and the book shows what its sections do.
pub record ShowsEvidence (old new : Ledger) (now : ℕ) (evidence evidence' : Whole) (read : EvidenceRead)
    : Type 0 where
  pub parts : List Part
  pub read_is : ReadsUntil evidence evidence' parts read.damage read.ended
  pub shows : ShowsSections old new now (sections_of parts)

-- memory ran out for the book, and what was read of the evidence is lost
abbrev pub LosesEvidence : Whole → Whole → Type 0
LosesEvidence evidence evidence' = (fault : InputFault) × StopsSections (as_source evidence) evidence'.source fault
