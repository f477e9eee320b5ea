-- What `audit` does with the name of a file and the input.
use Rattle.std.specs.Prelude.{◌≡◌, ℕ, List, [], Result, Ok, Err, ◌⊎◌}
use Rattle.tournaments.specs.declared.pages.Page.{Page}
use Rattle.cards.specs.Devices.{Device}
use Rattle.streams.specs.RunStreams.{Devices}
use Rattle.lease_book.specs.Books.{Ledger}
use Rattle.tables.specs.declared.results.Report.{Report}
use Rattle.evidence.specs.Wholes.{Whole}
use Rattle.evidence.specs.declared.damages.Damage.{Damage}
use Rattle.streams.specs.declared.opening.CannotOpen.{CannotOpen}
use Rattle.audits.specs.declared.faults.AuditFault.{AuditFault}
use Rattle.audits.specs.Audits.{AuditsTables}
use Rattle.board_subcommands.specs.declared.faults.BoardFault.{BoardFault}
use Rattle.board_subcommands.specs.declared.faults.BoardFault.TheVariants.{Evidence}
use Rattle.run_ends.specs.declared.named_files.FileFault.TheVariants.{Open}
use Rattle.board_subcommands.specs.declared.finished_runs.FinishedRun.{FinishedRun}
use Rattle.run_ends.specs.NamedFiles.{Opens}
use Rattle.board_subcommands.specs.FinishedRuns.{quiet}
use Rattle.tournaments.specs.Putting.{page_fact}
use Rattle.board_subcommands.specs.Reports.{page_status, unshown_notes}
use Rattle.board_subcommands.specs.Faults.{audit_fault}
use Rattle.std.specs.Prelude.{Option, Some}
use Rattle.streams.specs.RunStreams.{RunDevices}
use Rattle.run_ends.specs.declared.statuses.Status.{Status}
use Rattle.board_subcommands.specs.Ends.{Runs}
use Rattle.board_subcommands.specs.declared.audit.options.AuditOptions.{AuditOptions}
use Rattle.board_subcommands.specs.NamedBoards.{DoesOn, OpensNothing}

-- what is left of evidence before anything of it was read
abbrev pub unread : Device → Whole
unread file = record { source = file; held = []; before = 0 }

-- The file of this name was opened, and this came of the audit of the input by what the file tells, from its first byte
-- on.
pub record AuditsOpened (opens : Opens) (name : List ℕ) (page : Page) (old new : Devices)
    (audited : Result (Report × Ledger × Damage) AuditFault)
    : Type 0 where
  pub file : Device
  pub opened : opens name (Ok file)
  pub none_failed : file.failed ≡ 0
  pub left : Whole
  pub audits : AuditsTables (page_fact page) old new (unread file) left audited

-- What was answered, what the input has given and what the output has got: the page is that of the audit, which counts
-- the damage.
abbrev pub AuditsFile : Opens → List ℕ → Page → Devices → Devices → Result FinishedRun BoardFault → Type 0
AuditsFile opens name page old new (Ok outcome) =
    (report : Report) × (book : Ledger)
    × (outcome ≡ record (quiet (page_status page.form report book.terms.boards)) {
      damage = outcome.damage;
      notes = unshown_notes report book.terms.boards;
    })
    × AuditsOpened opens name page old new (Ok (report, book, outcome.damage))
AuditsFile opens name page old new (Err fault) =
    ((why : CannotOpen) × (fault ≡ Evidence (Open why))
    × OpensNothing opens name why old new)
    ⊎ ((audited : AuditFault) × (fault ≡ audit_fault audited)
    × AuditsOpened opens name page old new (Err audited))

-- a whole run
abbrev pub RunsAudit : Opens → AuditOptions → RunDevices → RunDevices → Option (List ℕ)
    → Status → Type 0
RunsAudit opens options old new handed_on status =
    Runs (DoesOn opens options.boards (AuditsFile opens options.file.now options.page))
    (record { boards = options.boards; evidence = Some options.file }) old new handed_on status
