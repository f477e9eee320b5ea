-- The leases of an audit.
use Rattle.std.specs.Prelude.{◌≡◌, ℕ, ◌+◌, ◌≤◌, true, List, [], ◌∷◌, Option, None, Some, sum_by, slice_index_or}
use Rattle.checker.specs.declared.entries.Shown.{Shown}
use Rattle.lease_book.specs.declared.entries.Entry.{Entry}
use Rattle.lease_book.specs.declared.events.Grant.{Grant}
use Rattle.lease_book.specs.Books.{Ledger}
use Rattle.lease_book.specs.Entries.{place_of}
use Rattle.lease_book.specs.Histories.{given_in, held_after, published_in, times_leased}
use Rattle.lease_book.specs.Twins.{is_first}
use Rattle.lease_book.specs.Settling.{settled_in}
use Rattle.lease_book.specs.Settling.{given_in as weight_given_in}
use Rattle.lease_book.specs.Moments.{AreTimed}

-- their numbers rise, from the first number on and below the second
abbrev pub AreWithin : ℕ → ℕ → List Grant → Type 0
AreWithin low high [] = low ≤ high
AreWithin low high (grant ∷ rest) = (low ≤ grant.lease) × AreWithin (grant.lease + 1) high rest

-- what leases weigh
abbrev pub weight_of : (ℕ → ℕ) → List Grant → ℕ
weight_of weight grants = sum_by (λ grant. weight grant.lease) grants

-- the number that was shown
abbrev pub tricks_in : Option Shown → Option ℕ
tricks_in None = None
tricks_in (Some shown) = Some shown.k

-- Each entry of a board that is the first with its deal was leased once, at this moment. The numbers published are
-- those in the places of the entries. The leases of the other entries are held. Each lease that is not held was settled
-- once.
pub record HandsInFirsts (old new : Ledger) (now : ℕ) (firsts : List (Option Shown)) (kept : List Grant) : Type 0 where
  pub terms_are : new.terms ≡ old.terms
  pub held : held_after new.events ≡ kept
  pub rising : (high : ℕ) × AreWithin 1 high kept
  pub settled : (weight : ℕ → ℕ)
      → settled_in weight new.events + weight_of weight kept ≡ weight_given_in weight new.events
  pub timed : AreTimed (λ moment. moment ≡ now) new.events
  pub leased : (entry : Entry) → is_first new.terms.boards entry.board ≡ true
      → times_leased new.events (place_of entry) ≡ 1
  pub leased_once : (place : ℕ) → times_leased new.events place ≤ 1
  pub published : (entry : Entry) → is_first new.terms.boards entry.board ≡ true
      → published_in new.terms.boards new.events entry ≡ tricks_in (slice_index_or firsts (place_of entry) None)

-- the leases were given up: none is held, and each was settled once; what was leased and published is as it was
pub record GivesUpAll (old new : Ledger) (now : ℕ) : Type 0 where
  pub terms_are : new.terms ≡ old.terms
  pub none_held : held_after new.events ≡ []
  pub settled : (weight : ℕ → ℕ) → settled_in weight new.events ≡ weight_given_in weight new.events
  pub timed : AreTimed (λ moment. moment ≡ now) new.events
  pub given_is : given_in new.events ≡ given_in old.events
  pub published : (entry : Entry)
      → published_in new.terms.boards new.events entry ≡ published_in old.terms.boards old.events entry
