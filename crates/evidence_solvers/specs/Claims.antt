-- The claims of the sections that were added to a file, and the numbers that events publish.
use Rattle.std.specs.Prelude.{◌≡◌, ℕ, List, Option, None, Some, Result, Ok, Err, All, Contains, ⊤}
use Rattle.cards.specs.Deal.{Deal}
use Rattle.cards.specs.declared.seats.Seat.{Seat}
use Rattle.cards.specs.declared.suits.Trump.{Trump}
use Rattle.certificate_graph.specs.declared.bundles.Claim.{Claim}
use Rattle.checker.specs.declared.entries.Shown.{Shown}
use Rattle.lease_book.specs.declared.events.Asked.{Asked}
use Rattle.lease_book.specs.declared.events.Asked.TheVariants.{HandIn}
use Rattle.lease_book.specs.declared.events.Event.{Event}
use Rattle.lease_book.specs.declared.events.HandedIn.TheVariants.{Shows}
use Rattle.lease_book.specs.declared.events.Reply.{Reply}
use Rattle.lease_book.specs.declared.events.Reply.TheVariants.{Published}
use Rattle.evidence.specs.Sections.{SectionShape}
use Rattle.evidence_solvers.specs.declared.claims.KeptClaim.{KeptClaim}
use Rattle.evidence_solvers.specs.declared.faults.KeepFault.{KeepFault}
use Rattle.evidence_solvers.specs.declared.faults.KeepFault.TheVariants.{Write}

-- ---- sections
-- the section is of this deal and denomination, and has a claim of so many tricks for this declarer
pub record ClaimsTricks (section : SectionShape) (deal : Deal) (declarer : Seat) (trump : Trump) (k : ℕ)
    : Type 0 where
  pub deal_is : section.deal ≡ deal
  pub trump_is : section.trump ≡ trump
  pub claim : Claim
  pub claimed : Contains section.claims claim
  pub declarer_is : claim.declarer ≡ declarer
  pub tricks_are : claim.k ≡ k

-- one of these sections does
pub record ClaimTricks (sections : List SectionShape) (deal : Deal) (declarer : Seat) (trump : Trump) (k : ℕ)
    : Type 0 where
  pub section : SectionShape
  pub is_one : Contains sections section
  pub claims : ClaimsTricks section deal declarer trump k

-- one of these sections has this claim
abbrev pub IsClaimedIn : List SectionShape → KeptClaim → Type 0
IsClaimedIn sections claim = ClaimTricks sections claim.layout claim.declarer claim.trump claim.k

-- ---- events
-- the value that a request hands in, if it hands one in
abbrev pub shown_by : Asked → Option Shown
shown_by (HandIn lease entry (Shows shown)) = Some shown
shown_by _ = None

-- the number that a reply publishes, if it publishes one
abbrev pub number_by : Reply → Option ℕ
number_by (Published k) = Some k
number_by _ = None

-- a fact about the value and the number that an event publishes, if it publishes one
abbrev pub OfPublished : (Shown → ℕ → Type 0) → Option Shown → Option ℕ → Type 0
OfPublished fact None number = ⊤
OfPublished fact (Some shown) None = ⊤
OfPublished fact (Some shown) (Some k) = fact shown k

-- one of these sections claims what the event published
abbrev pub IsBacked : List SectionShape → Event → Type 0
IsBacked sections event =
    OfPublished (λ shown k. ClaimTricks sections shown.layout shown.declarer shown.trump k) (shown_by event.asked)
    (number_by event.reply)

abbrev pub AreBacked : List SectionShape → List Event → Type 0
AreBacked sections events = All (IsBacked sections) events

-- ---- claims
-- the claim is of so many tricks for this deal, declarer and denomination
pub record IsClaimFor (shown : Shown) (k : ℕ) (claim : KeptClaim) : Type 0 where
  pub layout : claim.layout ≡ shown.layout
  pub declarer : claim.declarer ≡ shown.declarer
  pub trump : claim.trump ≡ shown.trump
  pub tricks : claim.k ≡ k

pub record HasClaimFor (claims : List KeptClaim) (shown : Shown) (k : ℕ) : Type 0 where
  pub claim : KeptClaim
  pub is_one : Contains claims claim
  pub is_for : IsClaimFor shown k claim

-- what the event published is among the claims
abbrev pub IsClaimed : List KeptClaim → Event → Type 0
IsClaimed claims event = OfPublished (HasClaimFor claims) (shown_by event.asked) (number_by event.reply)

abbrev pub AreClaimed : List KeptClaim → List Event → Type 0
AreClaimed claims events = All (IsClaimed claims) events

-- If all was kept so far, all is if what the events published is among the claims.
abbrev pub IsJudged : List KeptClaim → List Event → Result Unit KeepFault → Result Unit KeepFault → Type 0
IsJudged claims events (Ok done) (Ok all) = AreClaimed claims events
IsJudged claims events (Ok done) (Err fault) = fault ≡ Write
IsJudged claims events (Err fault) kept = kept ≡ Err fault
