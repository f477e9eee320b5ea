-- What comes of the plays of the games of the input, or of a file that is named.
use Rattle.std.specs.Prelude.{◌≡◌, ◌⊎◌, ℕ, Bool, true, false, List, Option, None, Some, Result, Ok, Err}
use Rattle.std.specs.Borrow.{Bor}
use Rattle.cards.specs.Devices.{Device}
use Rattle.streams.specs.RunStreams.{Devices, devices}
use Rattle.streams.specs.declared.opening.CannotOpen.{CannotOpen}
use Rattle.play_claims.specs.Solvers.{MayFindPlay}
use Rattle.play_pages.specs.declared.faults.PlaysFault.{PlaysFault}
use Rattle.play_pages.specs.declared.faults.PlaysFault.TheVariants as plays
use Rattle.play_pages.specs.declared.making.PlaysMade.{PlaysMade}
use Rattle.play_pages.specs.declared.queries.PlayQuery.{PlayQuery}
use Rattle.play_pages.specs.Making.{MakesPlays}
use Rattle.command_words.specs.declared.proofs.Proof.{Proof}
use Rattle.command_words.specs.declared.proofs.Proof.TheVariants.{Dropped, Kept, Audited}
use Rattle.run_ends.specs.NamedFiles.{Opens}
use Rattle.run_ends.specs.declared.named_files.FileFault.TheVariants as file
use Rattle.board_subcommands.specs.declared.faults.BoardFault.{BoardFault}
use Rattle.board_subcommands.specs.declared.faults.BoardFault.TheVariants as fault
use Rattle.board_subcommands.specs.declared.plays.options.PlaysOptions.{PlaysOptions}
use Rattle.board_subcommands.specs.NamedBoards.{OpensNothing}
use Rattle.board_subcommands.specs.Plays.Forms.{text_of}

-- the evidence is to be kept
abbrev pub is_kept : Proof → Bool
is_kept Dropped = false
is_kept (Kept name) = true
is_kept (Audited name) = false

-- what is asked of the search for each play
abbrev pub query_of : PlaysOptions → PlayQuery
query_of options = record { budget = options.budget; keeps = is_kept options.proof }

-- what comes of plays, if this is the fault of a source that fails
abbrev pub outcome : BoardFault → Result PlaysMade PlaysFault → Result PlaysMade BoardFault
outcome source_fault (Ok made) = Ok made
outcome source_fault (Err plays.OutOfMemory) = Err fault.OutOfMemory
outcome source_fault (Err plays.Read) = Err source_fault
outcome source_fault (Err plays.Write) = Err fault.Write

-- the plays of the games of a source were written, or why they were not
pub record PlaysGames (may_find : MayFindPlay) (options : PlaysOptions) (source_fault : BoardFault) (old new : Devices)
    (answer : Result PlaysMade BoardFault)
    : Type 0 where
  pub made : Result PlaysMade PlaysFault
  pub answer_is : answer ≡ outcome source_fault made
  pub makes : MakesPlays may_find (query_of options) (text_of options.form) old new made

-- The file of this name was opened, and the plays of its games were written. The input stays as it was.
pub record PlaysOpened (may_find : MayFindPlay) (opens : Opens) (options : PlaysOptions) (name : List ℕ)
    (old new : Devices) (answer : Result PlaysMade BoardFault)
    : Type 0 where
  pub source : Device
  pub opened : opens name (Ok source)
  pub none_failed : source.failed ≡ 0
  pub left : Device
  pub plays :
      PlaysGames may_find options (fault.Boards file.Read) (devices source old.sink) (devices left new.sink) answer
  pub input_stays : new.source ≡ old.source

-- that, or the file can't be opened, and nothing was read or written
abbrev pub PlaysNamed : MayFindPlay → Opens → PlaysOptions → List ℕ → Devices → Devices → Result PlaysMade BoardFault
    → Type 0
PlaysNamed may_find opens options name old new answer =
    PlaysOpened may_find opens options name old new answer
    ⊎ ((why : CannotOpen) × (answer ≡ Err (fault.Boards (file.Open why))) × OpensNothing opens name why old new)

-- the same with the file that is named, or with the input
abbrev pub PlaysOn : MayFindPlay → Opens → PlaysOptions → Option (Bor (List ℕ)) → Devices → Devices
    → Result PlaysMade BoardFault → Type 0
PlaysOn may_find opens options None old new answer = PlaysGames may_find options fault.Read old new answer
PlaysOn may_find opens options (Some name) old new answer = PlaysNamed may_find opens options name.now old new answer
