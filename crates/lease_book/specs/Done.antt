-- The end of a run.
use Rattle.std.specs.Prelude.{◌≡◌, ℕ, ◌⊎◌, false, true, List, [], Option, None, Some, is_some}
use Rattle.std.specs.List.{find}
use Rattle.lease_book.specs.declared.entries.Entry.{Entry}
use Rattle.lease_book.specs.declared.events.Grant.{Grant}
use Rattle.lease_book.specs.declared.events.Event.{Event}
use Rattle.lease_book.specs.Entries.{place_of}
use Rattle.lease_book.specs.Twins.{deal_of, twin_of}
use Rattle.lease_book.specs.Histories.{Terms, held_after, is_for_place, is_open, published_in, times_leased}

-- the number of a lease, if there is one
abbrev pub number_of : Option Grant → Option ℕ
number_of None = None
number_of (Some grant) = Some grant.lease

-- the number of the lease that is held of the entry in this place
abbrev pub holder_in : List Event → ℕ → Option ℕ
holder_in events place = number_of (find (is_for_place place) (held_after events))

-- no lease is held, and no entry is open
pub record IsIdle (terms : Terms) (events : List Event) : Type 0 where
  pub none_held : held_after events ≡ []
  pub none_open : (entry : Entry) → is_open terms events entry ≡ false

-- no lease is held, and each entry whose board has a deal has a number, or its least twin was leased as often as it may
-- be
pub record IsDone (terms : Terms) (events : List Event) : Type 0 where
  pub none_held : held_after events ≡ []
  pub each :
      (entry : Entry) → is_some (deal_of terms.boards entry.board) ≡ true
      → (is_some (published_in terms.boards events entry) ≡ true)
      ⊎ (times_leased events (place_of (twin_of terms.boards entry)) ≡ terms.tries)
