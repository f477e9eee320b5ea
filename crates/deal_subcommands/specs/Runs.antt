-- Whole runs: what a run does with its input and output, and how it ends.
use Rattle.std.specs.Prelude.{◌≡◌, ℕ, List, Option, Result}
use Rattle.streams.specs.RunStreams.{Devices, RunDevices}
use Rattle.run_ends.specs.Telling.{Ends}
use Rattle.run_ends.specs.declared.statuses.Status.{Status}
use Rattle.deal_subcommands.specs.Faults.{done_answer, explanation, opening, said, status}
use Rattle.deal_subcommands.specs.declared.faults.DealFault.{DealFault}

-- A run that does this ends so, and tells what hindered it, if anything did. A file that can't be opened has this name.
pub record Runs (Does : Devices → Devices → Result Status DealFault → Type 0) (file : Option (List ℕ))
    (old new : RunDevices) (ended : Status)
    : Type 0 where
  pub answer : Result Status DealFault
  pub does : Does old.both new.both answer
  pub ends : Ends status said opening explanation file answer old.errors new.errors ended

-- a run that answers no more than that all is done, and leaves the input as it was
pub record Finishes (Fact : Result Unit DealFault → Type 0) (old new : Devices) (answer : Result Status DealFault)
    : Type 0 where
  pub stays : new.source ≡ old.source
  pub done : Result Unit DealFault
  pub answer_is : answer ≡ done_answer done
  pub fact : Fact done
