-- What came of a run that was done, and what is printed of it: what was passed over of evidence.
use Rattle.std.specs.Prelude.{◌≡◌, ℕ, ◌<◌, List, [], ◌∷◌, ◌++◌, ◌⊎◌, Ok, codes}
use Rattle.std.specs.Fmt.{decimal}
use Rattle.cards.specs.Devices.{Device}
use Rattle.streams.specs.declared.inputs.InputFault.{InputFault}
use Rattle.streams.specs.declared.inputs.InputFault.TheVariants as input
use Rattle.evidence.specs.declared.damages.Damage.{Damage}
use Rattle.evidence_solvers.specs.declared.faults.KeepFault.TheVariants as keep
use Rattle.board_subcommands.specs.declared.faults.BoardFault.{BoardFault}
use Rattle.board_subcommands.specs.declared.faults.BoardFault.TheVariants.{Evidence, Unkept}
use Rattle.run_ends.specs.declared.named_files.FileFault.TheVariants as file
use Rattle.board_subcommands.specs.declared.finished_runs.FinishedRun.{FinishedRun}
use Rattle.run_ends.specs.declared.statuses.Status.{Status}
use Rattle.board_subcommands.specs.Counted.{counted}
use Rattle.board_subcommands.specs.Notes.{quiet_notes}
use Rattle.run_ends.specs.Telling.{IsTold}
use Rattle.cards.specs.Bytes as ascii

-- nothing was passed over
abbrev pub undamaged : Damage
undamaged = record { count = 0; first = 0 }

-- a run of which nothing is said, that has passed nothing over and had nothing to keep
abbrev pub quiet : Status → FinishedRun
quiet status =
    record { status = status; damage = undamaged; notes = quiet_notes; read = Ok tt; kept = Ok tt }

-- ---- what is printed
abbrev pub counted_text : ℕ → List ℕ
counted_text count =
    counted count (codes "1 section is damaged, at byte ") (codes " sections are damaged, the first at byte ")

-- the line: how many pieces were passed over, and where the first begins
abbrev pub damage_line : Damage → List ℕ
damage_line damage =
    codes "ddfarm: evidence: " ++ (counted_text damage.count ++ (decimal damage.first ++ ascii.line_feed ∷ []))

-- the error output has the line, where any piece was passed over, and else is as it was
abbrev pub TellsDamage : Damage → Device → Device → Type 0
TellsDamage damage errors errors' =
    ((damage.count ≡ 0) × (errors' ≡ errors)) ⊎ ((0 < damage.count) × IsTold errors errors' (damage_line damage))

-- why a file of evidence was not read to its end
abbrev pub shelf_fault : InputFault → BoardFault
shelf_fault input.OutOfMemory = Unkept keep.OutOfMemory
shelf_fault input.Read = Evidence file.Read
