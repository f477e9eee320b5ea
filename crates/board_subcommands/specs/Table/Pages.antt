-- The page of tables: how a run ends with it, and what `table` does.
use Rattle.std.specs.Prelude.{◌≡◌, List, Result, Ok, Err}
use Rattle.lease_book.specs.declared.events.Event.{Event}
use Rattle.tournaments.specs.declared.pages.PageForm.{PageForm}
use Rattle.board_subcommands.specs.declared.table.options.TableOptions.{TableOptions}
use Rattle.streams.specs.RunStreams.{Devices}
use Rattle.lease_book.specs.Books.{Ledger}
use Rattle.lease_book.specs.Moments.{MayTell}
use Rattle.certificate_graph.specs.Solvers.{MayFind}
use Rattle.farm.specs.declared.unclaimed.Unclaimed.{Unclaimed}
use Rattle.tables.specs.declared.results.Report.{Report}
use Rattle.tournaments.specs.declared.faults.MakeFault.{MakeFault}
use Rattle.board_subcommands.specs.declared.faults.BoardFault.{BoardFault}
use Rattle.board_subcommands.specs.declared.notes.Searches.{Searches}
use Rattle.board_subcommands.specs.declared.finished_runs.FinishedRun.{FinishedRun}
use Rattle.board_subcommands.specs.FinishedRuns.{quiet}
use Rattle.board_subcommands.specs.Reports.{page_status, refusal_count, searched_notes}
use Rattle.board_subcommands.specs.Faults.{make_fault}
use Rattle.board_subcommands.specs.Table.Made.{MakesTables}

-- how the searches of a run ended: the leases that got no claim, and the answers that were refused
abbrev pub searches_of : Unclaimed → List Event → Searches
searches_of unclaimed events =
    record { steps = unclaimed.steps; memory = unclaimed.memory; refused = refusal_count events }

-- What came of a page that was written for the book of a run: whether a table of it is incomplete, and what is said of
-- that and of the searches.
abbrev pub IsOutcomeOf : PageForm → Report → Ledger → Unclaimed → FinishedRun → Type 0
IsOutcomeOf page report book unclaimed outcome =
    outcome ≡ record (quiet (page_status page report book.terms.boards)) {
      notes = searched_notes report book.terms.boards (searches_of unclaimed book.events);
    }

-- the tables of the boards of the input, and what came of them
abbrev pub WritesTables : MayFind → MayTell → TableOptions → Devices → Devices → Result FinishedRun BoardFault → Type 0
WritesTables may_find may_tell options old new (Ok outcome) =
    (report : Report) × (book : Ledger) × (unclaimed : Unclaimed)
    × IsOutcomeOf options.page.form report book unclaimed outcome
    × MakesTables may_find may_tell options old new (Ok (report, book, unclaimed))
WritesTables may_find may_tell options old new (Err fault) =
    (made : MakeFault) × (fault ≡ make_fault made) × MakesTables may_find may_tell options old new (Err made)
