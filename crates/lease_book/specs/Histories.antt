-- What follows from a list of events: which leases were given, which are held, what is published, what is open.
use Rattle.std.specs.Prelude.{ℕ, Bool, false, not, ◌&&◌, List, [], ◌∷◌, ◌++◌, Option, None, Some, is_none}
use Rattle.std.specs.Prelude.{if◌then◌else◌, nat_eq, nat_le, nat_lt, count_by}
use Rattle.std.specs.List.{filter_map, find, list_any}
use Rattle.std.specs.Option.{option_or}
use Rattle.pbn_deals.specs.declared.boards.Board.{Board}
use Rattle.lease_book.specs.declared.entries.Entry.{Entry}
use Rattle.lease_book.specs.declared.events.Grant.{Grant}
use Rattle.lease_book.specs.declared.events.Asked.{Asked}
use Rattle.lease_book.specs.declared.events.Asked.TheVariants.{Lease, Expire, GiveUp, HandIn}
use Rattle.lease_book.specs.declared.events.Reply.{Reply}
use Rattle.lease_book.specs.declared.events.Reply.TheVariants.{Given, Nothing, Freed, GaveUp, UnknownLease, NotHeld}
use Rattle.lease_book.specs.declared.events.Reply.TheVariants.{OtherEntry, AlreadyPublished, BadCertificate, Published}
use Rattle.lease_book.specs.declared.events.Event.{Event}
use Rattle.lease_book.specs.Entries.{place_of}
pub use Rattle.lease_book.specs.Twins.{deal_of_board, deal_of}
use Rattle.lease_book.specs.Twins.{are_twins, is_first}

-- what a book is over: its boards, how long a lease lasts, and how often an entry may be leased
pub record Terms : Type 0 where
  pub boards : List Board
  pub term : ℕ
  pub tries : ℕ

-- the lease that a reply gives
abbrev pub given_as : Reply → Option Grant
given_as (Given lease entry deadline) = Some (record { lease = lease; entry = entry; deadline = deadline })
given_as Nothing = None
given_as (Freed count) = None
given_as GaveUp = None
given_as UnknownLease = None
given_as NotHeld = None
given_as OtherEntry = None
given_as AlreadyPublished = None
given_as (BadCertificate fault) = None
given_as (Published k) = None

abbrev pub given_by : Event → Option Grant
given_by event = given_as event.reply

-- the leases given, in order
abbrev pub given_in : List Event → List Grant
given_in events = filter_map given_by events

-- whether a lease has this number; whether its entry has this place; whether its deadline is at this moment or before
-- it
abbrev pub is_numbered : ℕ → Grant → Bool
is_numbered lease grant = nat_eq grant.lease lease

abbrev pub is_for_place : ℕ → Grant → Bool
is_for_place place grant = nat_eq (place_of grant.entry) place

abbrev pub is_past : ℕ → Grant → Bool
is_past now grant = nat_le grant.deadline now

-- the lease given under a number
abbrev pub grant_of : List Event → ℕ → Option Grant
grant_of events lease = find (is_numbered lease) (given_in events)

-- Whether a hand-in with this reply frees the lease: a bad one its own, a publication every lease of its entry. (No
-- twin of it is ever leased beside it: only the least of its twins is open.)
abbrev pub is_freed_by_hand_in : Grant → ℕ → Entry → Reply → Bool
is_freed_by_hand_in grant lease entry (BadCertificate fault) = is_numbered lease grant
is_freed_by_hand_in grant lease entry (Published k) = is_for_place (place_of entry) grant
is_freed_by_hand_in grant lease entry _ = false

-- whether an event frees the lease, if it is held
abbrev pub is_freed_by : Asked → Reply → Grant → Bool
is_freed_by (Lease now) reply grant = false
is_freed_by (Expire now) reply grant = is_past now grant
is_freed_by (GiveUp lease) reply grant = is_numbered lease grant
is_freed_by (HandIn lease entry evidence) reply grant = is_freed_by_hand_in grant lease entry reply

abbrev pub frees : Grant → Event → Bool
frees grant event = is_freed_by event.asked event.reply grant

-- the lease that was given, unless a later event frees it
abbrev pub unless_freed : Option Grant → List Event → List Grant
unless_freed None later = []
unless_freed (Some grant) later = if list_any (frees grant) later then [] else grant ∷ []

-- the leases held after these events: those given that no later event frees
abbrev pub held_after : List Event → List Grant
held_after [] = []
held_after (event ∷ later) = unless_freed (given_by event) later ++ held_after later

abbrev pub is_held : List Event → ℕ → Bool
is_held events lease = list_any (is_numbered lease) (held_after events)

-- the number that a reply publishes, for those that it is meant for
abbrev pub number_for : Bool → Reply → Option ℕ
number_for is_meant (Published k) = if is_meant then Some k else None
number_for is_meant _ = None

-- the number that an event publishes for the entries that pass a test
abbrev pub published_when : (Entry → Bool) → Asked → Reply → Option ℕ
published_when test (HandIn lease entry evidence) reply = number_for (test entry) reply
published_when test _ reply = None

-- the first of these numbers, if there is one
abbrev pub first_published : (Entry → Bool) → List Event → Option ℕ
first_published test [] = None
first_published test (event ∷ later) =
    option_or (published_when test event.asked event.reply) (first_published test later)

-- the number published for an entry: the first that is published for a twin of it
abbrev pub published_in : List Board → List Event → Entry → Option ℕ
published_in boards events entry = first_published (are_twins boards entry) events

-- how often the entry in this place was leased
abbrev pub times_leased : List Event → ℕ → ℕ
times_leased events place = count_by (is_for_place place) (given_in events)

-- whether an entry is open: its board has a deal and the entry is the least of its twins, it is unpublished, no lease
-- of it is held, and a try is left
abbrev pub is_open : Terms → List Event → Entry → Bool
is_open terms events entry =
    is_first terms.boards entry.board
    && is_none (published_in terms.boards events entry)
    && not (list_any (is_for_place (place_of entry)) (held_after events))
    && nat_lt (times_leased events (place_of entry)) terms.tries
