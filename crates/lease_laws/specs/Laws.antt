-- What follows from the definitions, for every list of events.
use Rattle.std.specs.Prelude.{◌≡◌, ℕ, ◌*◌, ◌≤◌, ◌⊎◌, true, false, List, [], ◌∷◌, ◌++◌, length, Some, is_some}
use Rattle.std.specs.List.{filter_map, list_any}
use Rattle.std.specs.Option.{option_to_list}
use Rattle.pbn_deals.specs.declared.boards.Board.{Board}
use Rattle.lease_book.specs.declared.entries.Entry.{Entry}
use Rattle.lease_book.specs.declared.events.Grant.{Grant}
use Rattle.lease_book.specs.declared.events.Asked.{Asked}
use Rattle.lease_book.specs.declared.events.Asked.TheVariants.{Lease, GiveUp}
use Rattle.lease_book.specs.declared.events.Reply.{Reply}
use Rattle.lease_book.specs.declared.events.Reply.TheVariants.{Nothing}
use Rattle.lease_book.specs.declared.events.Event.{Event}
use Rattle.lease_book.specs.Entries.{place_of}
use Rattle.lease_book.specs.Twins.{deal_of, IsLeastTwin, IsTwin, twin_of}
use Rattle.lease_laws.specs.Twins.{deal_count}
use Rattle.lease_laws.specs.GoodHandIns.{first_good}
use Rattle.lease_book.specs.Histories.{Terms, given_in, grant_of, held_after, is_for_place}
use Rattle.lease_book.specs.Histories.{published_in, times_leased}
use Rattle.lease_book.specs.Replies.{IsReply, IsLegal}
use Rattle.lease_book.specs.Done.{holder_in}
use Rattle.lease_book.specs.Settling.{is_settled, AreSettledOnce}
use Rattle.lease_book.specs.Laws.{published_for}

-- after one history one reply is named for a request
abbrev pub NamesOneReply : Type 0
NamesOneReply =
    (terms : Terms) (before : List Event) (asked : Asked) (one other : Reply)
    → IsReply terms before asked one → IsReply terms before asked other
    → one ≡ other

-- what is called the least twin of an entry is the least of its twins
abbrev pub FindsLeastTwin : Type 0
FindsLeastTwin = (boards : List Board) (entry : Entry) → IsTwin boards entry (twin_of boards entry)

-- a legal history gives leases of least twins alone, so never of two twins
abbrev pub LeasesLeastTwins : Type 0
LeasesLeastTwins =
    (terms : Terms) (events : List Event) (lease : ℕ) (grant : Grant) → IsLegal terms events
    → grant_of events lease ≡ Some grant
    → IsLeastTwin terms.boards grant.entry grant.entry

-- a legal history publishes the number of the first good hand-in for an entry's least twin, and no other
abbrev pub PublishesFirstGood : Type 0
PublishesFirstGood =
    (terms : Terms) (events : List Event) (entry : Entry) → IsLegal terms events
    → published_in terms.boards events entry ≡ first_good terms events entry

-- a legal history publishes a number for an entry and its twins once, or never
abbrev pub PublishesOnce : Type 0
PublishesOnce =
    (terms : Terms) (events : List Event) (entry : Entry) → IsLegal terms events
    → filter_map (published_for terms.boards entry) events ≡ option_to_list (published_in terms.boards events entry)

-- a legal history gives no more leases than the entries of so many boards as there are different deals have tries, so
-- that who leases on is answered Nothing in the end
abbrev pub GivesFewLeases : Type 0
GivesFewLeases =
    (terms : Terms) (events : List Event) → IsLegal terms events
    → length (given_in events) ≤ terms.tries * (20 * deal_count terms.boards)

-- where a request for a lease is answered Nothing, each entry whose board has a deal has a number, or its least twin is
-- leased, or was leased as often as it may be
abbrev pub NothingIsLeft : Type 0
NothingIsLeft =
    (terms : Terms) (before : List Event) (now : ℕ) (entry : Entry) → IsLegal terms before
    → IsReply terms before (Lease now) Nothing → is_some (deal_of terms.boards entry.board) ≡ true
    → (is_some (published_in terms.boards before entry) ≡ true)
    ⊎ ((list_any (is_for_place (place_of (twin_of terms.boards entry))) (held_after before) ≡ true)
    ⊎ (times_leased before (place_of (twin_of terms.boards entry)) ≡ terms.tries))

-- A lease of a legal history that is held, and that no event has settled, may be given up. Then no lease is settled
-- twice that was not before.
abbrev pub MayGiveUpUnsettled : Type 0
MayGiveUpUnsettled =
    (terms : Terms) (events : List Event) (place lease : ℕ) (reply : Reply) → IsLegal terms events
    → holder_in events place ≡ Some lease → is_settled lease events ≡ false → AreSettledOnce events
    → AreSettledOnce (events ++ record { asked = GiveUp lease; reply = reply } ∷ [])
