-- What a run for opening leads does.
use Rattle.std.specs.Prelude.{◌≡◌, ℕ, false, nat_eq, if◌then◌else◌, Result, Ok, Err}
use Rattle.streams.specs.RunStreams.{Devices}
use Rattle.board_subcommands.specs.declared.leads.options.LeadsOptions.{LeadsOptions}
use Rattle.certificate_graph.specs.Solvers.{MayFindCards}
use Rattle.opening_leads.specs.declared.faults.LeadFault.{LeadFault}
use Rattle.opening_leads.specs.declared.counts.LeadReport.{LeadReport}
use Rattle.opening_leads.specs.Making.{MakesLeads}
use Rattle.run_ends.specs.declared.statuses.Status.{Status}
use Rattle.run_ends.specs.declared.statuses.Status.TheVariants.{Done, Incomplete}
use Rattle.board_subcommands.specs.declared.faults.BoardFault.{BoardFault}
use Rattle.board_subcommands.specs.declared.notes.Lacking.{Lacking}
use Rattle.board_subcommands.specs.declared.notes.Lacking.TheVariants.{Nothing, Rows}
use Rattle.board_subcommands.specs.declared.notes.Notes.{Notes}
use Rattle.board_subcommands.specs.declared.notes.Searches.{Searches}
use Rattle.board_subcommands.specs.declared.finished_runs.FinishedRun.{FinishedRun}
use Rattle.board_subcommands.specs.FinishedRuns.{quiet}
use Rattle.board_subcommands.specs.Faults.{lead_fault}
use Rattle.std.specs.Prelude.{List, None, Option}
use Rattle.streams.specs.RunStreams.{RunDevices}
use Rattle.run_ends.specs.NamedFiles.{Opens}
use Rattle.board_subcommands.specs.Ends.{Runs}
use Rattle.board_subcommands.specs.NamedBoards.{DoesOn}

-- how a run ends from whose page as many rows are missing
abbrev pub lead_status : ℕ → Status
lead_status missing = if nat_eq missing 0 then Done else Incomplete

-- why rows are missing
abbrev pub lead_searches : LeadReport → Searches
lead_searches report = record { steps = report.steps; memory = report.memory; refused = report.refused }

abbrev pub lead_lacking : LeadReport → Lacking
lead_lacking report = if nat_eq report.missing 0 then Nothing else Rows report.missing (lead_searches report)

-- what is said of leads: that there are no boards, which have no deal, and which rows are missing, and why
abbrev pub lead_notes : LeadReport → Notes
lead_notes report = record {
  lacks_boards = nat_eq report.boards 0;
  undealt = report.undealt;
  read_only = false;
  lacking = lead_lacking report;
}

-- what comes of leads
abbrev pub lead_outcome : Result LeadReport LeadFault → Result FinishedRun BoardFault
lead_outcome (Ok report) = Ok (record (quiet (lead_status report.missing)) { notes = lead_notes report })
lead_outcome (Err fault) = Err (lead_fault fault)

-- the leads of the boards of the input were written, or why they were not
abbrev pub LeadsBoards : MayFindCards → LeadsOptions → Devices → Devices → Result FinishedRun BoardFault → Type 0
LeadsBoards may_find options old new ended =
    (made : Result LeadReport LeadFault) × (ended ≡ lead_outcome made)
    × MakesLeads may_find options.budget old new made

-- a whole run
abbrev pub RunsLeads : MayFindCards → Opens → LeadsOptions → RunDevices → RunDevices → Option (List ℕ)
    → Status → Type 0
RunsLeads may_find opens options old new handed_on status =
    Runs (DoesOn opens options.boards (LeadsBoards may_find options))
    (record { boards = options.boards; evidence = None }) old new handed_on status
