-- The output of a run: a text that was asked for, and its end.
use Rattle.std.specs.Prelude.{◌≡◌, ◌⊎◌, Option, List, ℕ, Result, Ok}
use Rattle.clap.specs.declared.error.Error.{Error}
use Rattle.streams.specs.Flushes.{HandsOn}
use Rattle.streams.specs.RunStreams.{RunDevices}
use Rattle.cards.specs.Devices.{Fails, Adds, AddsBeginning}
use Rattle.run_ends.specs.Statuses.{status_code}
use Rattle.run_ends.specs.Telling.{IsTold}
use Rattle.run_ends.specs.declared.statuses.Status.{Status}
use Rattle.run_ends.specs.declared.statuses.Status.TheVariants.{Done, Failed, Refused, Incomplete, Rejected}
use Rattle.command_line.specs.Faults.{told}
use Rattle.command_line.specs.declared.faults.ProgramFault.TheVariants.{Write}
use Rattle.command_line.specs.declared.subcommands.Subcommand.{Subcommand}
use Rattle.command_line.specs.declared.subcommands.Subcommand.TheVariants.{Play}

-- how many bytes of the output may be held back, by what was read of the words
abbrev pub room_for : Result Subcommand Error → ℕ
room_for (Ok (Play options)) = 0
room_for _ = 8192

-- A text was written on the output, or a beginning of it, and that it failed was reported. The input stays as it was.
abbrev pub Shows : RunDevices → RunDevices → List ℕ → Status → Type 0
Shows old new text Done =
    (new.both.source ≡ old.both.source) × Adds old.both.sink new.both.sink text × (new.errors ≡ old.errors)
Shows old new text Failed =
    (new.both.source ≡ old.both.source) × AddsBeginning old.both.sink new.both.sink text
    × IsTold old.errors new.errors (told Write)
Shows old new text Refused = ⊥
Shows old new text Incomplete = ⊥
Shows old new text Rejected = ⊥

-- the exit status of a run that failed or was refused
abbrev pub IsUndone : ℕ → Type 0
IsUndone code = (code ≡ status_code Failed) ⊎ (code ≡ status_code Refused)

-- The end of a run with this exit status. However it ended, the writer below the output's buffer has got all that was
-- written, or that failed. Then a run that was done has failed, and the error output says so. One that had failed or
-- was refused stays so, and the error output says nothing more.
pub data ClosesOutput (old new : RunDevices) (below : Option (List ℕ)) (code ended : ℕ) : Type 0 where
  is_flushed : ended ≡ code → HandsOn old.both.sink new.both.sink below → new.errors ≡ old.errors
      → ClosesOutput old new below code ended
  fails : (IsUndone code → ⊥) → ended ≡ status_code Failed → Fails old.both.sink new.both.sink
      → IsTold old.errors new.errors (told Write)
      → ClosesOutput old new below code ended
  fails_too : IsUndone code → ended ≡ code → Fails old.both.sink new.both.sink → new.errors ≡ old.errors
      → ClosesOutput old new below code ended

-- the same, and the input stays as it was
abbrev pub EndsStreams : RunDevices → RunDevices → Option (List ℕ) → ℕ → ℕ → Type 0
EndsStreams old new below code ended =
    (new.both.source ≡ old.both.source) × ClosesOutput old new below code ended
