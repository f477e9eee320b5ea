-- How the tables of a whole list of requests are read.
use Rattle.std.specs.Prelude.{ℕ, List, []}
use Rattle.cards.specs.Devices.{Device}
use Rattle.plain_runs.specs.declared.requests.Request.{Request}
use Rattle.tables.specs.declared.results.Report.{Report}
use Rattle.tournaments.specs.Pages.{history_text}
use Rattle.plain_runs.specs.Replaying.{FillsFromRequests}
use Rattle.page_laws.specs.TablesPages.{IsReadOnce}

-- the tables that are written of a whole list of requests are read as a page of tables
abbrev pub ReplayedTablesAreRead : Type 0
ReplayedTablesAreRead =
    (text : List ℕ) (term tries : ℕ) (requests : List Request) (sink sink' : Device) (report : Report) →
    (filled : FillsFromRequests text term tries requests sink sink' report) →
    IsReadOnce [] filled.boards filled.events (history_text [] filled.boards filled.events)
