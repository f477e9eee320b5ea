-- Files that are opened by their names, to be read and to be added to.
use Rattle.std.specs.Prelude.{◌≡◌, ℕ, ◌+◌, ◌-◌, ◌^◌, ◌≤◌, min, List, take, Option, option_map, Result, Ok, Err, ⊤}
use Rattle.std.specs.Io.Take.{take_remaining}
use Rattle.cards.specs.Devices.{Device}
use Rattle.streams.specs.declared.opening.CannotOpen.{CannotOpen}
use Rattle.evidence_solvers.specs.declared.access.Access.{Access}
use Rattle.evidence_solvers.specs.declared.opening.Opened.{Opened}
use Rattle.evidence_solvers.specs.Tails.{tail_contents}

-- a file that was opened: what it tells where it is read, how many bytes it had then, what it holds where it is added
-- to, and how it can be used
pub record OpenedFile : Type 0 where
  pub front : Device
  pub length : ℕ
  pub held : Option (List ℕ)
  pub access : Access

-- what may come of the opening of a name: such a file, or why it can't be opened
abbrev pub OpensToKeep : Type 1
OpensToKeep = List ℕ → Result OpenedFile CannotOpen → Type 0

-- as much of what a file tells as it had bytes when it was opened, and one byte more if its last line got its end
abbrev pub IsToldOf : Option (List ℕ) → ℕ → Option (List ℕ) → Type 0
IsToldOf remaining length told =
    (added : ℕ) × (added ≤ 1) × (told ≡ option_map (take (min (length + added) (2 ^ 64 - 1))) remaining)

-- any file may be opened to be added to, with what its reader tells so far, or none, for any reason
abbrev pub MayBeAny : {File : Type 0} → (File → Option (List ℕ)) → (File → Option (List ℕ))
    → Result OpenedFile CannotOpen → Type 0
MayBeAny remaining contents (Err why) = ⊤
MayBeAny {File} remaining contents (Ok opened) =
    (file : File) × IsToldOf (remaining file) opened.length opened.front.bytes × (opened.front.failed ≡ 0)
    × ((end : File) × (opened.held ≡ contents end))

-- a file that was opened to be read and to be added to, or why it can't be opened
abbrev pub opened_of : {File : Type 0} → (File → Option (List ℕ)) → (File → Option (List ℕ))
    → Result (Opened File) CannotOpen → Result OpenedFile CannotOpen
opened_of remaining contents (Ok opened) = Ok (record {
  front = record { bytes = take_remaining remaining opened.front; failed = 0 };
  length = opened.length.bytes;
  held = tail_contents contents opened.tail;
  access = opened.access;
})
opened_of remaining contents (Err why) = Err why
