-- Files that are opened by their names, to be read, or made, to be written.
use Rattle.std.specs.Prelude.{◌≡◌, ℕ, List, Option, Some, Result, Ok, Err, ⊤}
use Rattle.cards.specs.Devices.{Device, Writes}
use Rattle.cards.specs.declared.devices.DeviceFault.{DeviceFault}
use Rattle.streams.specs.declared.opening.CannotOpen.{CannotOpen}

-- what may come of the opening of a name: what the file tells then, or why it can't be opened
abbrev pub Opens : Type 1
Opens = List ℕ → Result Device CannotOpen → Type 0

-- what a file that was opened tells, or why it can't be opened
abbrev pub told_of : {File : Type 0} → (File → Device) → Result File CannotOpen → Result Device CannotOpen
told_of state (Ok file) = Ok (state file)
told_of state (Err why) = Err why

-- any file may be opened, with all that its reader tells, or none, for any reason
abbrev pub MayBeAll : {File : Type 0} → (File → Option (List ℕ)) → Result Device CannotOpen → Type 0
MayBeAll remaining (Err why) = ⊤
MayBeAll {File} remaining (Ok device) =
    (file : File) × (device ≡ record { bytes = remaining file; failed = 0 })

-- A file of this name was made, and this is what it is after the run: it got the text, or a beginning of it, and then a
-- write has failed.
pub record IsKeptIn (makes : Opens) (name text : List ℕ) (written : Result Unit DeviceFault) (left : Option Device)
    : Type 0 where
  pub made : Device
  pub makes_it : makes name (Ok made)
  pub file : Device
  pub left_is : left ≡ Some file
  pub writes : Writes made file text written
