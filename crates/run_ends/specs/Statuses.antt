-- How runs end.
use Rattle.std.specs.Prelude.{ℕ}
use Rattle.run_ends.specs.declared.statuses.Status.{Status}
use Rattle.run_ends.specs.declared.statuses.Status.TheVariants.{Done, Failed, Refused, Incomplete, Rejected}

-- the exit status of the process
abbrev pub status_code : Status → ℕ
status_code Done = 0
status_code Failed = 1
status_code Refused = 2
status_code Incomplete = 3
status_code Rejected = 4
