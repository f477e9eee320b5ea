-- What calls ask of a book.
use Rattle.std.specs.Prelude.{◌≡◌, Option, None, Some, Result, Ok, Err}
use Rattle.cards.specs.Deal.{Deal}
use Rattle.checker.specs.declared.claims.Claimed.{Claimed}
use Rattle.checker.specs.declared.entries.Shown.{Shown}
use Rattle.checker.specs.declared.hand_faults.HandFault.{HandFault}
use Rattle.checker.specs.declared.hand_faults.HandFault.TheVariants.{NoDeal, Entry}
use Rattle.checker.specs.Witnesses.{rooted_shape}
use Rattle.checker.specs.EntryFaults.{EntryAnswers}
use Rattle.lease_book.specs.declared.entries.Entry as entries
use Rattle.lease_book.specs.declared.events.Asked.{Asked}
use Rattle.lease_book.specs.declared.events.Asked.TheVariants.{Lease, Expire, GiveUp, HandIn}
use Rattle.lease_book.specs.Proofs.{evidence_of}
use Rattle.lease_desk.specs.declared.asking.Asking.{Asking}
use Rattle.lease_desk.specs.declared.asking.Asking.TheVariants as asking

-- the request to the book
abbrev pub asked_of : Asking → Asked
asked_of (asking.Lease now) = Lease now
asked_of (asking.Expire now) = Expire now
asked_of (asking.GiveUp lease) = GiveUp lease
asked_of (asking.HandIn lease entry verdict) = HandIn lease entry (evidence_of verdict)

-- the verdict on a claim for an entry whose board has this deal
abbrev pub IsVerdictOn : Option Deal → entries.Entry → Claimed → Result Shown HandFault → Type 0
IsVerdictOn None entry claimed verdict = verdict ≡ Err NoDeal
IsVerdictOn (Some deal) entry claimed (Ok shown) =
    EntryAnswers deal entry.declarer entry.trump claimed.k (rooted_shape claimed.declarer)
    (rooted_shape claimed.defenders) (Ok shown)
IsVerdictOn (Some deal) entry claimed (Err (Entry fault)) =
    EntryAnswers deal entry.declarer entry.trump claimed.k (rooted_shape claimed.declarer)
    (rooted_shape claimed.defenders) (Err fault)
IsVerdictOn (Some deal) entry claimed (Err _) = ⊥
