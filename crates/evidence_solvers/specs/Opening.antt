-- What is opened as a file of evidence.
use Rattle.std.specs.Prelude.{◌≡◌, ℕ, ◌+◌, ◌-◌, ◌^◌, Bool, true, false, ◌||◌, List, [], ◌∷◌, nat_eq, min, ◌⊎◌}
use Rattle.std.specs.Prelude.{Option, Some, IfSome, Ok, if◌then◌else◌}
use Rattle.std.specs.Fs.{asks_append, asks_create, asks_create_new, asks_read, asks_truncate, asks_write}
use Rattle.std.specs.declared.fs.options.OpenOptions.{OpenOptions}
use Rattle.std.specs.Io.KnownBytes.{Consumes}
use Rattle.std.specs.Io.Take.{take_limit}
use Rattle.evidence_solvers.specs.declared.access.Access.{Access}
use Rattle.evidence_solvers.specs.declared.access.Access.TheVariants.{ReadAndAdd, ReadOnly}
use Rattle.evidence_solvers.specs.declared.opening.Opened.{Opened}
use Rattle.streams.specs.declared.opening.CannotOpen.{CannotOpen}
use Rattle.streams.specs.declared.opening.CannotOpen.TheVariants.{Denied}
use Rattle.evidence_solvers.specs.Tails.{EndsLastLine}

-- whether nothing can be added to a file
abbrev pub is_read_only : Access → Bool
is_read_only ReadAndAdd = false
is_read_only ReadOnly = true

-- a file can be added to if its options ask for that
abbrev pub access_of : OpenOptions → Access
access_of how = if asks_append how then ReadAndAdd else ReadOnly

-- options by which a file is read and loses nothing: each write goes to its end
pub record LoseNothing (how : OpenOptions) : Type 0 where
  pub read : asks_read how ≡ true
  pub written_at_its_end : asks_write how ≡ false
  pub also_old : asks_create_new how ≡ false
  pub none_lost : asks_truncate how ≡ false
  pub none_made : asks_append how ≡ false → asks_create how ≡ false

-- whether a file can't be opened because access is denied
abbrev pub is_denied : CannotOpen → Bool
is_denied Denied = true
is_denied _ = false

-- whether a PBN text begins with this byte: a directive or a tag pair
abbrev pub begins_pbn : ℕ → Bool
begins_pbn byte = nat_eq byte 37 || nat_eq byte 91

-- whether a file of this length begins as a PBN text: its first byte was read, if it has any
abbrev pub IsBegun : {F : Type 0} → (F → Option (List ℕ)) → F → F → ℕ → Bool → Type 0
IsBegun remaining old new length begins =
    ((length ≡ 0) × (begins ≡ false))
    ⊎ ((first : ℕ) × Consumes (remaining old) (remaining new) (first ∷ []) × (begins ≡ begins_pbn first))

-- the last of so many bytes of a file was read: the file stood at that byte before, as far as it tells its place
pub record ReadsLast {F : Type 0} (place : F → Option ℕ) (remaining : F → Option (List ℕ)) (old new : F)
    (length last : ℕ)
    : Type 0 where
  pub there : F
  pub stood : IfSome (place old) (λ before. place there ≡ Some (length - 1))
  pub read : Consumes (remaining there) (remaining new) (last ∷ [])

-- whether the last of so many bytes of a file is the end of a line; a file without bytes has all its lines' ends
abbrev pub IsLineEnd : {F : Type 0} → (F → Option ℕ) → (F → Option (List ℕ)) → F → F → ℕ → Bool → Type 0
IsLineEnd place remaining old new length ends =
    ((length ≡ 0) × (ends ≡ true))
    ⊎ ((last : ℕ) × ReadsLast place remaining old new length last × (ends ≡ nat_eq last 10))

-- how many bytes the end of the last line takes that is written
abbrev pub length_of_end : Bool → ℕ
length_of_end ends = if ends then 0 else 1

-- how far a file is read: as many bytes as it had when it was opened, and the end of the last line that is written
abbrev pub front_length : {F : Type 0} → Opened F → Bool → ℕ
front_length opened ends =
    min (opened.length.bytes + length_of_end (ends || is_read_only opened.access)) (2 ^ 64 - 1)

-- A file of the length that its metadata say does not begin as a PBN text. It was read whether its last line has its
-- end. If not, a line feed was written, or that has failed; but nothing was written to a file that can only be read. It
-- is to be read as far as it goes with that line feed, and nothing was left out yet.
pub record IsOpened {F : Type 0} (place : F → Option ℕ) (remaining contents : F → Option (List ℕ)) (opened : Opened F)
    : Type 0 where
  pub first : F
  pub end : F
  pub seen : F
  pub begun : IsBegun remaining first end opened.length.bytes false
  pub ends : Bool
  pub line_end : IsLineEnd place remaining end seen opened.length.bytes ends
  pub line :
      EndsLastLine contents seen opened.tail.file (ends || is_read_only opened.access) opened.tail.has_failed
  pub limit_is : take_limit opened.front ≡ front_length opened ends
  pub none_lacks : opened.tail.lacks ≡ Ok tt
