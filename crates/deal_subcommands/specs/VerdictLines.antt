-- What `check` prints of a verdict.
use Rattle.std.specs.Prelude.{List, [], ◌∷◌, ◌++◌, ℕ, codes, Result, Ok, Err}
use Rattle.std.specs.Fmt.{decimal}
use Rattle.checker.specs.declared.hand_faults.HandFault.{HandFault}
use Rattle.checker.specs.declared.entries.Shown.{Shown}
use Rattle.checker.specs.FaultWords.{hand_fault_text}
use Rattle.run_ends.specs.declared.statuses.Status.{Status}
use Rattle.run_ends.specs.declared.statuses.Status.TheVariants.{Done, Rejected}
use Rattle.cards.specs.Bytes as ascii

-- what is said of a verdict
abbrev pub verdict_text : Result Shown HandFault → List ℕ
verdict_text (Ok shown) = codes "accepted " ++ decimal shown.k
verdict_text (Err fault) = codes "refused " ++ hand_fault_text fault

-- the line that is printed, and how the run ends
abbrev pub verdict_line : Result Shown HandFault → List ℕ
verdict_line verdict = verdict_text verdict ++ ascii.line_feed ∷ []

abbrev pub verdict_status : Result Shown HandFault → Status
verdict_status (Ok shown) = Done
verdict_status (Err fault) = Rejected
