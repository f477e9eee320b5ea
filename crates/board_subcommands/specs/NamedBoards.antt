-- Boards of a file that is named, in place of the input.
use Rattle.std.specs.Prelude.{◌≡◌, ◌⊎◌, ℕ, List, Option, None, Some, Result, Ok, Err}
use Rattle.std.specs.Borrow.{Bor}
use Rattle.cards.specs.Devices.{Device}
use Rattle.streams.specs.RunStreams.{Devices, devices}
use Rattle.streams.specs.declared.opening.CannotOpen.{CannotOpen}
use Rattle.run_ends.specs.NamedFiles.{Opens}
use Rattle.run_ends.specs.declared.named_files.FileFault.TheVariants as file
use Rattle.board_subcommands.specs.declared.faults.BoardFault.{BoardFault}
use Rattle.board_subcommands.specs.declared.faults.BoardFault.TheVariants as fault
use Rattle.board_subcommands.specs.declared.finished_runs.FinishedRun.{FinishedRun}

-- the file of this name can't be opened, for this reason, and nothing was read or written
pub record OpensNothing (opens : Opens) (name : List ℕ) (why : CannotOpen) (old new : Devices)
    : Type 0 where
  pub unopened : opens name (Err why)
  pub stay : new ≡ old

-- what comes of two devices
abbrev pub Doing : Type 1
Doing = Devices → Devices → Result FinishedRun BoardFault → Type 0

-- what came of a run with a file of boards as its input: if the input has failed, the file has
abbrev pub fault_of_boards : BoardFault → BoardFault
fault_of_boards fault.Read = fault.Boards file.Read
fault_of_boards other = other

abbrev pub of_boards : Result FinishedRun BoardFault → Result FinishedRun BoardFault
of_boards (Ok outcome) = Ok outcome
of_boards (Err told) = Err (fault_of_boards told)

-- The file of this name was opened, and that was done with what it says, from its first byte on, in place of the
-- input, which stays as it was.
pub record DoesOpened (opens : Opens) (name : List ℕ) (Does : Doing) (old new : Devices)
    (answer : Result FinishedRun BoardFault)
    : Type 0 where
  pub file : Device
  pub opened : opens name (Ok file)
  pub none_failed : file.failed ≡ 0
  pub left : Device
  pub done : Result FinishedRun BoardFault
  pub does : Does (devices file old.sink) (devices left new.sink) done
  pub answer_is : answer ≡ of_boards done
  pub input_stays : new.source ≡ old.source

-- that, or the file can't be opened, and nothing was read or written
abbrev pub DoesNamed : Opens → List ℕ → Doing → Devices → Devices → Result FinishedRun BoardFault → Type 0
DoesNamed opens name Does old new answer =
    DoesOpened opens name Does old new answer
    ⊎ ((why : CannotOpen) × (answer ≡ Err (fault.Boards (file.Open why))) × OpensNothing opens name why old new)

-- the same with the file that is named, or with the input
abbrev pub DoesOn : Opens → Option (Bor (List ℕ)) → Doing → Devices → Devices → Result FinishedRun BoardFault → Type 0
DoesOn opens None Does old new answer = Does old new answer
DoesOn opens (Some name) Does old new answer = DoesNamed opens name.now Does old new answer
