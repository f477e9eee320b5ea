-- What a run for recorded plays does.
use Rattle.std.specs.Prelude.{◌≡◌, ℕ, Bool, true, false, List, Option, None, Some, Result, Ok, Err}
use Rattle.std.specs.Borrow.{Bor}
use Rattle.cards.specs.Devices.{Device}
use Rattle.streams.specs.RunStreams.{Devices, RunDevices}
use Rattle.play_claims.specs.Solvers.{MayFindPlay}
use Rattle.play_pages.specs.declared.making.PlaysMade.{PlaysMade}
use Rattle.command_words.specs.declared.proofs.Proof.{Proof}
use Rattle.command_words.specs.declared.proofs.Proof.TheVariants.{Dropped, Kept, Audited}
use Rattle.run_ends.specs.NamedFiles.{Opens}
use Rattle.run_ends.specs.declared.statuses.Status.{Status}
use Rattle.board_subcommands.specs.declared.ends.FileNames.{FileNames}
use Rattle.board_subcommands.specs.declared.faults.BoardFault.{BoardFault}
use Rattle.board_subcommands.specs.declared.plays.ends.PlaysOutcome.{PlaysOutcome}
use Rattle.board_subcommands.specs.declared.plays.options.PlaysOptions.{PlaysOptions}
use Rattle.board_subcommands.specs.FinishedRuns.{undamaged}
use Rattle.board_subcommands.specs.Plays.Audit.{AuditsPlays}
use Rattle.board_subcommands.specs.Plays.Ends.{EndsPlays}
use Rattle.board_subcommands.specs.Plays.Games.{PlaysOn}
use Rattle.board_subcommands.specs.Plays.Kept.{KeepsAnswer}

-- what comes of plays whose evidence is dropped
abbrev pub dropped : Result PlaysMade BoardFault → Result PlaysOutcome BoardFault
dropped (Ok made) = Ok (record { report = made.report; damage = undamaged; kept = Ok tt })
dropped (Err why) = Err why

-- the plays were written: searched, searched and kept, or shown by evidence; and this is the file that was made, if any
abbrev pub DoesPlays : MayFindPlay → Opens → Opens → PlaysOptions → Proof → Devices → Devices → Option Device
    → Result PlaysOutcome BoardFault → Type 0
DoesPlays may_find opens makes options Dropped old new left answer =
    (made : Result PlaysMade BoardFault) × (answer ≡ dropped made)
    × PlaysOn may_find opens options options.games old new made
    × (left ≡ None)
DoesPlays may_find opens makes options (Kept name) old new left answer =
    (made : Result PlaysMade BoardFault) × PlaysOn may_find opens options options.games old new made
    × KeepsAnswer makes name.now made left answer
DoesPlays may_find opens makes options (Audited name) old new left answer =
    AuditsPlays opens options name.now old new answer × (left ≡ None)

-- the numbers come from evidence
abbrev pub is_audit : Proof → Bool
is_audit Dropped = false
is_audit (Kept name) = false
is_audit (Audited name) = true

-- the name of the file with the evidence, if there is one
abbrev pub file_of : Proof → Option (Bor (List ℕ))
file_of Dropped = None
file_of (Kept name) = Some name
file_of (Audited name) = Some name

-- the names of the files of a run
abbrev pub names_of : PlaysOptions → FileNames
names_of options = record { boards = options.games; evidence = file_of options.proof }

-- a whole run, with an output that has handed on this, and a file of evidence that was made, if any
pub record RunsPlays (may_find : MayFindPlay) (opens makes : Opens) (options : PlaysOptions) (old new : RunDevices)
    (left : Option Device) (handed_on : Option (List ℕ)) (status : Status)
    : Type 0 where
  pub answer : Result PlaysOutcome BoardFault
  pub between : Devices
  pub does : DoesPlays may_find opens makes options options.proof old.both between left answer
  pub input_stays : new.both.source ≡ between.source
  pub ends :
      EndsPlays (names_of options) answer (is_audit options.proof) between.sink new.both.sink handed_on old.errors
      new.errors status
