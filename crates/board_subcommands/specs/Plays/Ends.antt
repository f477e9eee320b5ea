-- How a run for recorded plays ends, and what is printed of it.
use Rattle.std.specs.Prelude.{◌≡◌, ◌⊎◌, ℕ, nat_eq, ◌&&◌, Bool, if◌then◌else◌, List, Option, Result, Ok, Err}
use Rattle.cards.specs.Devices.{Device, Fails}
use Rattle.streams.specs.Flushes.{HandsOn}
use Rattle.play_pages.specs.declared.making.PlaysReport.{PlaysReport}
use Rattle.run_ends.specs.Telling.{IsTold}
use Rattle.run_ends.specs.declared.statuses.Status.{Status}
use Rattle.run_ends.specs.declared.statuses.Status.TheVariants.{Done, Failed, Incomplete}
use Rattle.board_subcommands.specs.declared.ends.FileNames.{FileNames}
use Rattle.board_subcommands.specs.declared.faults.BoardFault.{BoardFault}
use Rattle.board_subcommands.specs.declared.faults.BoardFault.TheVariants as fault
use Rattle.board_subcommands.specs.declared.plays.ends.PlaysOutcome.{PlaysOutcome}
use Rattle.board_subcommands.specs.Ends.{EndsBy, file_named, told}
use Rattle.board_subcommands.specs.FinishedRuns.{TellsDamage}
use Rattle.board_subcommands.specs.Plays.Notes.{TellsReport}

-- each number is known, each card is legal, and no game lacks anything
abbrev pub is_whole : PlaysReport → Bool
is_whole report = nat_eq report.missing 0 && nat_eq report.illegal 0 && nat_eq report.lacking 0

-- how a run ends that wrote plays
abbrev pub plays_status : PlaysReport → Status
plays_status report = if is_whole report then Done else Incomplete

-- it ends so if all evidence was kept that was to be kept; otherwise it is printed why it wasn't
abbrev pub EndsKept : FileNames → Result Unit BoardFault → Status → Device → Device → Status → Type 0
EndsKept names (Ok done) reached errors errors' status = (status ≡ reached) × (errors' ≡ errors)
EndsKept names (Err why) reached errors errors' status =
    (status ≡ Failed) × IsTold errors errors' (told (file_named names why) why)

-- what is said of plays that were written: what was passed over of evidence, the notes, and why evidence wasn't kept
abbrev pub EndsWritten : FileNames → PlaysOutcome → Bool → Device → Device → Status → Type 0
EndsWritten names ended is_audit errors errors' status =
    (between : Device) × (noted : Device) × TellsDamage ended.damage errors between
    × TellsReport ended.report is_audit between noted
    × EndsKept names ended.kept (plays_status ended.report) noted errors' status

-- How the run ends. If plays were written, the output has handed on all that it took before anything is said: if it
-- can't, that alone is said.
abbrev pub EndsPlays : FileNames → Result PlaysOutcome BoardFault → Bool → Device → Device → Option (List ℕ) → Device
    → Device → Status → Type 0
EndsPlays names (Ok ended) is_audit sink sink' handed_on errors errors' status =
    (HandsOn sink sink' handed_on × EndsWritten names ended is_audit errors errors' status)
    ⊎ (Fails sink sink' × EndsBy names fault.Write errors errors' status)
EndsPlays names (Err why) is_audit sink sink' handed_on errors errors' status =
    (sink' ≡ sink) × EndsBy names why errors errors' status
