-- Moments that have come, and the first of them in a list.
use Rattle.std.specs.Prelude.{◌≡◌, ℕ, ◌<◌, ◌≤◌, Bool, true, false, List, Option}
use Rattle.std.specs.Prelude.{None, Some, nat_le, if◌then◌else◌, slice_index_or}

-- whether there is a moment, and it has come
abbrev pub is_due : ℕ → Option ℕ → Bool
is_due now None = false
is_due now (Some moment) = nat_le moment now

-- the earlier of two moments, where there are any
abbrev pub earlier : Option ℕ → Option ℕ → Option ℕ
earlier None other = other
earlier (Some one) None = Some one
earlier (Some one) (Some other) = Some (if nat_le one other then one else other)

-- the moment of a place
abbrev pub moment_at : List (Option ℕ) → ℕ → Option ℕ
moment_at moments place = slice_index_or moments place None

-- none has come from one place up to another
abbrev pub NoneIsDue : ℕ → ℕ → ℕ → List (Option ℕ) → Type 0
NoneIsDue now from end moments = (place : ℕ) → from ≤ place → place < end → is_due now (moment_at moments place) ≡ false

-- of the places from one up to another this is the first whose moment has come
pub record IsFirstDue (now from end : ℕ) (moments : List (Option ℕ)) (place : ℕ) : Type 0 where
  pub from_on : from ≤ place
  pub before_the_end : place < end
  pub due : is_due now (moment_at moments place) ≡ true
  pub first : NoneIsDue now from place moments
