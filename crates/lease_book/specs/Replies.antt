-- The reply that a history names for each request, and the histories in which each reply is that one.
use Rattle.std.specs.Prelude.{◌≡◌, ℕ, ◌+◌, ◌-◌, ◌^◌, ◌≤◌, min, Bool, true, false, ◌&&◌, List, [], ◌∷◌, ◌++◌, length}
use Rattle.std.specs.Prelude.{Option, None, Some, is_some, if◌then◌else◌, nat_eq, count_by}
use Rattle.cards.specs.Deal.{Deal, is_same_deal}
use Rattle.pbn_deals.specs.declared.boards.Board.{Board}
use Rattle.checker.specs.declared.entries.Shown.{Shown}
use Rattle.lease_book.specs.declared.entries.Entry.{Entry}
use Rattle.lease_book.specs.declared.events.Grant.{Grant}
use Rattle.lease_book.specs.declared.events.HandedIn.{HandedIn}
use Rattle.lease_book.specs.declared.events.HandedIn.TheVariants.{Shows, Faulty}
use Rattle.lease_book.specs.declared.events.Asked.{Asked}
use Rattle.lease_book.specs.declared.events.Asked.TheVariants.{Lease, Expire, GiveUp, HandIn}
use Rattle.lease_book.specs.declared.events.Reply.{Reply}
use Rattle.lease_book.specs.declared.events.Reply.TheVariants.{Given, Nothing, Freed, GaveUp, UnknownLease, NotHeld}
use Rattle.lease_book.specs.declared.events.Reply.TheVariants.{OtherEntry, AlreadyPublished, BadCertificate, Published}
use Rattle.lease_book.specs.declared.events.Event.{Event}
use Rattle.lease_book.specs.Entries.{contract_place, place_of, is_same_entry}
use Rattle.lease_book.specs.Histories.{Terms, given_in, grant_of, held_after, is_held, is_past, is_open, published_in}
use Rattle.lease_book.specs.Histories.{deal_of}

-- the lease given is the next one, for the least open entry, with the moment plus the term as its deadline
pub record IsNextLease (terms : Terms) (before : List Event) (now lease : ℕ) (entry : Entry) (deadline : ℕ)
    : Type 0 where
  pub next : lease ≡ length (given_in before) + 1
  pub ready : is_open terms before entry ≡ true
  pub least : (other : Entry) → is_open terms before other ≡ true → place_of entry ≤ place_of other
  pub until : deadline ≡ min (now + terms.term) (2 ^ 64 - 1)

abbrev pub IsLeaseReply : Terms → List Event → ℕ → Reply → Type 0
IsLeaseReply terms before now (Given lease entry deadline) = IsNextLease terms before now lease entry deadline
IsLeaseReply terms before now Nothing = (entry : Entry) → is_open terms before entry ≡ false
IsLeaseReply terms before now _ = ⊥

-- a lease that was never given, one that is held, one that no longer is
abbrev pub give_up_reply : List Event → ℕ → Reply
give_up_reply before lease =
    if is_some (grant_of before lease) then (if is_held before lease then GaveUp else NotHeld) else UnknownLease

-- whether what was shown is of this deal, and of the entry's declarer and denomination
abbrev pub is_shown_for : Option Deal → Entry → Shown → Bool
is_shown_for None entry shown = false
is_shown_for (Some deal) entry shown =
    is_same_deal deal shown.layout
    && nat_eq (contract_place entry.declarer entry.trump) (contract_place shown.declarer shown.trump)

-- whether what was handed in can be for the entry
abbrev pub is_evidence_for : List Board → Entry → HandedIn → Bool
is_evidence_for boards entry (Shows shown) = is_shown_for (deal_of boards entry.board) entry shown
is_evidence_for boards entry (Faulty fault) = true

abbrev pub evidence_reply : HandedIn → Reply
evidence_reply (Shows shown) = Published shown.k
evidence_reply (Faulty fault) = BadCertificate fault

-- the first that applies: no such lease; another entry; published before, or a twin of it; then what was handed in
-- counts
abbrev pub hand_in_reply : Terms → List Event → Option Grant → Entry → HandedIn → Reply
hand_in_reply terms before None entry evidence = UnknownLease
hand_in_reply terms before (Some grant) entry evidence =
    if is_same_entry grant.entry entry && is_evidence_for terms.boards entry evidence
    then (if is_some (published_in terms.boards before entry) then AlreadyPublished else evidence_reply evidence)
    else OtherEntry

-- the reply to a request, after these events
abbrev pub IsReply : Terms → List Event → Asked → Reply → Type 0
IsReply terms before (Lease now) reply = IsLeaseReply terms before now reply
IsReply terms before (Expire now) reply = reply ≡ Freed (count_by (is_past now) (held_after before))
IsReply terms before (GiveUp lease) reply = reply ≡ give_up_reply before lease
IsReply terms before (HandIn lease entry evidence) reply =
    reply ≡ hand_in_reply terms before (grant_of before lease) entry evidence

-- a history whose replies are those, after what went before
abbrev pub IsLegalAfter : Terms → List Event → List Event → Type 0
IsLegalAfter terms before [] = Unit {0}
IsLegalAfter terms before (event ∷ later) =
    IsReply terms before event.asked event.reply × IsLegalAfter terms (before ++ event ∷ []) later

abbrev pub IsLegal : Terms → List Event → Type 0
IsLegal terms events = IsLegalAfter terms [] events
