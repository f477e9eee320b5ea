-- The page after an audit of the text's boards.
use Rattle.std.proofs.Common.{ℕ, List, Ok, Err, sym, subst}
use Rattle.cards.specs.Devices.{Device}
use Rattle.pbn_deals.specs.Reading.{TextAnswers}
use Rattle.streams.specs.RunStreams.{devices}
use Rattle.streams.proofs.ReadLaws.{Loses-all}
use Rattle.lease_book.specs.Books.{Ledger}
use Rattle.lease_book.specs.Histories.{Terms}
use Rattle.tables.specs.declared.results.Report.{Report}
use Rattle.tournaments.specs.declared.faults.MakeFault.{MakeFault}
use Rattle.tournaments.specs.declared.faults.MakeFault.TheVariants.{OutOfMemory, Read, Pbn, NoThread, Write}
use Rattle.tournaments.specs.Making.{PageFact}
use Rattle.tournaments.specs.Putting.{PutsPage}
use Rattle.tournaments.proofs.PutLaws.{says_boards, page_filled, page_begun}
use Rattle.evidence.specs.Wholes.{Whole}
use Rattle.evidence.specs.declared.damages.Damage.{Damage}
use Rattle.audits.specs.declared.faults.AuditFault.TheVariants.{Page}
use Rattle.audits.specs.Reads.{sections_of}
use Rattle.audits.specs.Audits.{IsAudit, AuditsText, FillsFromEvidence, BeginsFromEvidence, AuditsTables}
use Rattle.audits.proofs.ReadLaws.{lost_all}

module _ (is_page : PageFact) (source source' sink sink' : Device) (evidence evidence' : Whole) (text : List ℕ) (book : Ledger) (damage : Damage)
    (made : AuditsText source source' evidence evidence' text book damage) where
  pub is_audit : IsAudit (sections_of made.audits.parts) book.terms book.events
  is_audit = subst (λ (t : Terms). IsAudit (sections_of made.audits.parts) t book.events) (sym made.audits.terms_are) made.audits.audit

  pub says : TextAnswers text (Ok book.terms.boards)
  says = says_boards (IsAudit (sections_of made.audits.parts)) is_page made.boards 1 1 source source' sink sink' text book made.all made.read made.audits.terms_are

  pub fills : (report : Report) → PutsPage is_page text book sink sink' (Ok report) → FillsFromEvidence is_page (devices source sink) (devices source' sink') evidence evidence' report book damage
  fills report put = record {
    parts = made.audits.parts;
    read = made.audits.read;
    page = page_filled (IsAudit (sections_of made.audits.parts)) is_page made.boards 1 1 source source' sink sink' text book made.all made.read made.audits.terms_are is_audit report put;
  }

  begins : PutsPage is_page text book sink sink' (Err Write) → BeginsFromEvidence is_page (devices source sink) (devices source' sink') evidence evidence'
  begins put = record {
    parts = made.audits.parts;
    damage = damage;
    read = made.audits.read;
    page = page_begun (IsAudit (sections_of made.audits.parts)) is_page made.boards 1 1 source source' sink sink' text book made.all made.read made.audits.terms_are is_audit Write put;
  }

  pub begins_page : (fault : MakeFault) → PutsPage is_page text book sink sink' (Err fault) → AuditsTables is_page (devices source sink) (devices source' sink') evidence evidence' (Err (Page fault))
  begins_page OutOfMemory put = ((Loses-all made.all, lost_all evidence evidence' made.audits.parts damage made.audits.read), put)
  begins_page Read put = absurd put
  begins_page (Pbn fault) put = absurd put
  begins_page NoThread put = absurd put
  begins_page Write put = begins put
