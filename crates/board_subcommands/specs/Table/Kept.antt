-- What `table` does, with the name of a file of evidence and without.
use Rattle.std.specs.Prelude.{◌≡◌, ℕ, List, Option, None, Some, Result, Ok, Err, IfOk, ◌⊎◌}
use Rattle.std.specs.Borrow.{Bor}
use Rattle.board_subcommands.specs.declared.table.options.TableOptions.{TableOptions}
use Rattle.streams.specs.RunStreams.{Devices}
use Rattle.certificate_graph.specs.Solvers.{MayFind}
use Rattle.lease_book.specs.Moments.{MayTell}
use Rattle.lease_book.specs.declared.events.Event.{Event}
use Rattle.evidence_solvers.specs.declared.access.Access.{Access}
use Rattle.streams.specs.declared.opening.CannotOpen.{CannotOpen}
use Rattle.evidence_solvers.specs.declared.faults.KeepFault.{KeepFault}
use Rattle.evidence_solvers.specs.Added.{IsAnswered, IsKeptFor, MayBe}
use Rattle.evidence_solvers.specs.Opening.{is_read_only}
use Rattle.board_subcommands.specs.declared.faults.BoardFault.{BoardFault}
use Rattle.board_subcommands.specs.declared.faults.BoardFault.TheVariants.{Evidence}
use Rattle.run_ends.specs.declared.named_files.FileFault.TheVariants as file
use Rattle.board_subcommands.specs.declared.finished_runs.FinishedRun.{FinishedRun}
use Rattle.board_subcommands.specs.Table.KeptFiles.{OpenedFile, OpensToKeep}
use Rattle.board_subcommands.specs.Table.Pages.{WritesTables}
use Rattle.board_subcommands.specs.Table.Beside.{WritesBeside}

-- what a run leaves of a file that it was to add to: what the file has, where it tells that, if one was opened
abbrev pub Left : Type 0
Left = Option (Option (List ℕ))

-- what came of tables, with what is said of the file to which evidence is added
abbrev pub with_file : FinishedRun → Access → Result Unit KeepFault → FinishedRun
with_file outcome access kept =
    record outcome { notes = record outcome.notes { read_only = is_read_only access }; kept = kept }

-- it is said of a file that can only be read
abbrev pub IsSaidOf : Access → Result FinishedRun BoardFault → Type 0
IsSaidOf access answer = IfOk answer (λ outcome. outcome.notes.read_only ≡ is_read_only access)

-- the file can't be opened, for this reason, and nothing was read or written
pub record OpensNoFile (opens : OpensToKeep) (name : List ℕ) (why : CannotOpen) (old new : Devices)
    : Type 0 where
  pub unopened : opens name (Err why)
  pub stay : new ≡ old

-- Tables beside a file that was opened. It held this and tells this where it is read. After the run it has that, and
-- behind it whole sections that may be added. If it is said that all was kept, one of them claims each number that was
-- published after what the file showed. If it is said that writing failed, the last section may be a beginning.
pub record WritesKept (may_find : MayFind) (may_be : MayBe) (held told : Option (List ℕ)) (access : Access)
    (may_tell : MayTell) (options : TableOptions) (old new : Devices) (left : Left)
    (answer : Result FinishedRun BoardFault)
    : Type 0 where
  pub now : Option (List ℕ)
  pub left_is : left ≡ Some now
  pub said : IsSaidOf access answer
  pub writes :
      WritesBeside told may_find may_tell (λ kept events. IsKeptFor may_be held events now kept) options old new answer

-- a file of this name was opened, and the tables are those beside it; what is added are sections of answers that the
-- solver may find
pub record KeepsBeside (may_find : MayFind) (opens : OpensToKeep) (may_tell : MayTell) (options : TableOptions)
    (name : List ℕ) (left : Left) (old new : Devices) (answer : Result FinishedRun BoardFault)
    : Type 0 where
  pub file : OpenedFile
  pub opened : opens name (Ok file)
  pub none_failed : file.front.failed ≡ 0
  pub writes :
      WritesKept may_find (IsAnswered may_find) file.held file.front.bytes file.access may_tell options old new left
      answer

-- What `table` answers with a file of this name, what the input has given and the output has got, and what the file has
-- after the run. Or the file can't be opened, and nothing was read or written.
abbrev pub KeepsTables : MayFind → OpensToKeep → MayTell → TableOptions → List ℕ → Left → Devices → Devices
    → Result FinishedRun BoardFault → Type 0
KeepsTables may_find opens may_tell options name left old new answer =
    KeepsBeside may_find opens may_tell options name left old new answer
    ⊎ ((why : CannotOpen) × (answer ≡ Err (Evidence (file.Open why))) × (left ≡ None)
    × OpensNoFile opens name why old new)

-- what `table` does
abbrev pub FillsTables : MayFind → OpensToKeep → MayTell → TableOptions → Option (Bor (List ℕ)) → Left → Devices
    → Devices → Result FinishedRun BoardFault → Type 0
FillsTables may_find opens may_tell options None left old new answer =
    WritesTables may_find may_tell options old new answer × (left ≡ None)
FillsTables may_find opens may_tell options (Some name) left old new answer =
    KeepsTables may_find opens may_tell options name.now left old new answer
