-- How a run for boards ends, and what is printed of it.
use Rattle.std.specs.Prelude.{◌≡◌, ◌⊎◌, ℕ, List, Option, None, Result, Ok, Err, option_map}
use Rattle.cards.specs.Devices.{Device, Fails}
use Rattle.streams.specs.Flushes.{HandsOn}
use Rattle.streams.specs.RunStreams.{Devices, RunDevices}
use Rattle.streams.specs.declared.inputs.InputFault.{InputFault}
use Rattle.evidence_solvers.specs.declared.faults.KeepFault.{KeepFault}
use Rattle.run_ends.specs.Telling.{IsTold, told_text}
use Rattle.run_ends.specs.declared.statuses.Status.{Status}
use Rattle.run_ends.specs.declared.statuses.Status.TheVariants.{Failed}
use Rattle.board_subcommands.specs.Faults.{explanation, opening, said, status}
use Rattle.board_subcommands.specs.FinishedRuns.{TellsDamage, shelf_fault}
use Rattle.board_subcommands.specs.Notes.{TellsNotes}
use Rattle.board_subcommands.specs.declared.ends.FileNames.{FileNames}
use Rattle.board_subcommands.specs.declared.faults.BoardFault.{BoardFault}
use Rattle.board_subcommands.specs.declared.faults.BoardFault.TheVariants.{Boards, Unkept, Write}
use Rattle.board_subcommands.specs.declared.finished_runs.FinishedRun.{FinishedRun}

-- all that is written of a fault
abbrev pub told : Option (List ℕ) → BoardFault → List ℕ
told name fault = told_text name (said fault) (opening fault) (explanation fault)

-- How a run that was done ends: by its own status if all was kept. Otherwise it is printed that something was not.
abbrev pub EndsKept : Result Unit KeepFault → Status → Device → Device → Status → Type 0
EndsKept (Ok done) reached errors errors' ended = (ended ≡ reached) × (errors' ≡ errors)
EndsKept (Err fault) reached errors errors' ended =
    (ended ≡ Failed) × IsTold errors errors' (told None (Unkept fault))

-- The same if all was read that was to be read. Otherwise it is printed that something was not.
abbrev pub EndsRead : Result Unit InputFault → Result Unit KeepFault → Status → Device → Device → Status → Type 0
EndsRead (Ok done) kept reached errors errors' ended = EndsKept kept reached errors errors' ended
EndsRead (Err fault) kept reached errors errors' ended =
    (ended ≡ Failed) × IsTold errors errors' (told None (shelf_fault fault))

-- the name of the file that a fault speaks of, if it speaks of one
abbrev pub file_named : FileNames → BoardFault → Option (List ℕ)
file_named names (Boards why) = option_map (λ name. name.now) names.boards
file_named names _ = option_map (λ name. name.now) names.evidence

-- what is said of a run that was done: what was passed over of evidence, the notes, and that not all evidence was read
-- or kept
abbrev pub EndsDone : FinishedRun → Device → Device → Status → Type 0
EndsDone outcome errors errors' ended =
    (between : Device) × (noted : Device) × TellsDamage outcome.damage errors between
    × TellsNotes outcome.notes between noted
    × EndsRead outcome.read outcome.kept outcome.status noted errors' ended

-- a fault, with what explains it
abbrev pub EndsBy : FileNames → BoardFault → Device → Device → Status → Type 0
EndsBy names fault errors errors' ended =
    (ended ≡ status fault) × IsTold errors errors' (told (file_named names fault) fault)

-- How the run ends. If it was done, the output has handed on all that it took before anything is said: if it can't,
-- that alone is said. Nothing else touches the error output.
abbrev pub Ends : FileNames → Result FinishedRun BoardFault → Device → Device → Option (List ℕ) → Device → Device
    → Status → Type 0
Ends names (Ok outcome) sink sink' handed_on errors errors' ended =
    (HandsOn sink sink' handed_on × EndsDone outcome errors errors' ended)
    ⊎ (Fails sink sink' × EndsBy names Write errors errors' ended)
Ends names (Err fault) sink sink' handed_on errors errors' ended =
    (sink' ≡ sink) × EndsBy names fault errors errors' ended

-- A run that does this ends so, by the names of its files, with an output that has handed on this.
pub record Runs (Does : Devices → Devices → Result FinishedRun BoardFault → Type 0) (names : FileNames)
    (old new : RunDevices) (handed_on : Option (List ℕ)) (ended : Status)
    : Type 0 where
  pub answer : Result FinishedRun BoardFault
  pub between : Devices
  pub does : Does old.both between answer
  pub input_stays : new.both.source ≡ between.source
  pub ends : Ends names answer between.sink new.both.sink handed_on old.errors new.errors ended
