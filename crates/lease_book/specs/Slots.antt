-- What a book keeps of each entry, in the order of their places.
use Rattle.std.specs.Prelude.{◌≡◌, ℕ, ◌/◌, ◌<◌, ◌≤◌, Bool, true, false, ◌&&◌, List, Option, None, Some, is_none}
use Rattle.std.specs.Prelude.{is_some}
use Rattle.std.specs.Prelude.{if◌then◌else◌, nat_eq, nat_lt, slice_index_or, length}
use Rattle.due_rows.specs.Moments.{is_due}
use Rattle.lease_book.specs.declared.events.Grant.{Grant}
use Rattle.pbn_deals.specs.declared.boards.Board.{Board}
use Rattle.lease_book.specs.Twins.{is_first}
use Rattle.lease_book.specs.declared.slots.Slot.{Slot}

-- the deadline of the lease that is held, if there is one
abbrev pub deadline_of_holder : Option Grant → Option ℕ
deadline_of_holder None = None
deadline_of_holder (Some grant) = Some grant.deadline

abbrev pub deadline_of : Slot → Option ℕ
deadline_of slot = deadline_of_holder slot.holder

-- whether that deadline is at this moment or before it
abbrev pub is_past_slot : ℕ → Slot → Bool
is_past_slot now slot = is_due now (deadline_of slot)

-- whether a lease of the entry is held
abbrev pub is_held_slot : Slot → Bool
is_held_slot slot = is_some slot.holder

abbrev pub is_open_slot : Slot → Bool
is_open_slot slot = is_none slot.published && is_none slot.holder && nat_lt 0 slot.left

-- an open entry has a moment that has always come
abbrev pub opening_of : Slot → Option ℕ
opening_of slot = if is_open_slot slot then Some 0 else None

-- the slot without its lease
abbrev pub freed : Slot → Slot
freed slot = record { published = slot.published; holder = None; left = slot.left }

abbrev pub freed_if_past : ℕ → Slot → Slot
freed_if_past now slot = if is_past_slot now slot then freed slot else slot

-- whether this lease is the one that is held
abbrev pub is_holder : ℕ → Option Grant → Bool
is_holder lease None = false
is_holder lease (Some grant) = nat_eq grant.lease lease

abbrev pub freed_of : ℕ → Slot → Slot
freed_of lease slot = if is_holder lease slot.holder then freed slot else slot

-- no slot from one place on passes a test
abbrev pub NonePasses : (Slot → Bool) → ℕ → List Slot → Type 0
NonePasses test from slots =
    (place : ℕ) (d : Slot) → from ≤ place → place < length slots → test (slice_index_or slots place d) ≡ false

-- the first slot from one place on that passes a test
pub record IsFirst (test : Slot → Bool) (from : ℕ) (slots : List Slot) (place : ℕ) : Type 0 where
  pub from_on : from ≤ place
  pub within : place < length slots
  pub passes : (d : Slot) → test (slice_index_or slots place d) ≡ true
  pub first : (other : ℕ) (d : Slot) → from ≤ other → other < place → test (slice_index_or slots other d) ≡ false

-- a slot of an entry that may be leased so often, and was not yet
abbrev pub new_slot : ℕ → Slot
new_slot tries = record { published = None; holder = None; left = tries }

-- how often the entry in a place may be leased: never where its board has no deal, or a board before it has the same
abbrev pub tries_of : List Board → ℕ → ℕ → ℕ
tries_of boards tries place = if is_first boards (place / 20) then tries else 0
