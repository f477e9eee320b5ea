-- Which number of an entry counts, by what was asked and the leases that were given alone.
use Rattle.std.specs.Prelude.{ℕ, ◌&&◌, List, [], ◌∷◌, ◌++◌, Option, None, Some, if◌then◌else◌}
use Rattle.std.specs.Option.{option_or}
use Rattle.pbn_deals.specs.declared.boards.Board.{Board}
use Rattle.lease_book.specs.declared.entries.Entry.{Entry}
use Rattle.lease_book.specs.declared.events.Grant.{Grant}
use Rattle.lease_book.specs.declared.events.HandedIn.{HandedIn}
use Rattle.lease_book.specs.declared.events.HandedIn.TheVariants.{Shows, Faulty}
use Rattle.lease_book.specs.declared.events.Asked.{Asked}
use Rattle.lease_book.specs.declared.events.Asked.TheVariants.{Lease, Expire, GiveUp, HandIn}
use Rattle.lease_book.specs.declared.events.Event.{Event}
use Rattle.lease_book.specs.Entries.{is_same_entry}
use Rattle.lease_book.specs.Twins.{deal_of, twin_of}
use Rattle.lease_book.specs.Histories.{Terms, grant_of}
use Rattle.lease_book.specs.Replies.{is_shown_for}

-- the number that is shown for an entry under a lease, if the lease was given for it
abbrev pub good_under : List Board → Entry → Option Grant → HandedIn → Option ℕ
good_under boards entry None evidence = None
good_under boards entry (Some grant) (Faulty fault) = None
good_under boards entry (Some grant) (Shows shown) =
    if is_same_entry grant.entry entry && is_shown_for
    (deal_of boards entry.board) entry shown then Some shown.k else None

-- the number that a request shows for an entry: only a hand-in for it shows one
abbrev pub good_of : Terms → List Event → Entry → Asked → Option ℕ
good_of terms before entry (Lease now) = None
good_of terms before entry (Expire now) = None
good_of terms before entry (GiveUp lease) = None
good_of terms before entry (HandIn lease named evidence) =
    if is_same_entry named entry then good_under terms.boards entry (grant_of before lease) evidence else None

-- the first such number, where these events went before
abbrev pub first_good_after : Terms → List Event → List Event → Entry → Option ℕ
first_good_after terms before [] entry = None
first_good_after terms before (event ∷ later) entry =
    option_or (good_of terms before entry event.asked) (first_good_after terms (before ++ event ∷ []) later entry)

-- the number of the first good hand-in for an entry's least twin
abbrev pub first_good : Terms → List Event → Entry → Option ℕ
first_good terms events entry = first_good_after terms [] events (twin_of terms.boards entry)
