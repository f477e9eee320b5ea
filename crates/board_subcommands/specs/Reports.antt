-- How a run ends with a page, and what is said of it.
use Rattle.std.specs.Prelude.{ℕ, ◌-◌, Bool, true, false, List, length, count_by, is_some, nat_eq, nat_lt}
use Rattle.std.specs.Prelude.{if◌then◌else◌}
use Rattle.tournaments.specs.declared.pages.PageForm.{PageForm}
use Rattle.tournaments.specs.declared.pages.PageForm.TheVariants.{Tables, Whole, Sheet}
use Rattle.pbn_deals.specs.declared.boards.Board.{Board}
use Rattle.lease_book.specs.declared.events.Event.{Event}
use Rattle.lease_book.specs.declared.events.Reply.{Reply}
use Rattle.lease_book.specs.declared.events.Reply.TheVariants.{BadCertificate}
use Rattle.tables.specs.declared.results.Report.{Report}
use Rattle.board_subcommands.specs.declared.notes.Searches.{Searches}
use Rattle.board_subcommands.specs.declared.notes.Lacking.{Lacking}
use Rattle.board_subcommands.specs.declared.notes.Lacking.TheVariants.{Nothing, Searched, Unshown}
use Rattle.board_subcommands.specs.declared.notes.Notes.{Notes}
use Rattle.run_ends.specs.declared.statuses.Status.{Status}
use Rattle.run_ends.specs.declared.statuses.Status.TheVariants.{Done, Incomplete}

-- how many boards have a deal
abbrev pub deal_count : List Board → ℕ
deal_count boards = count_by (λ board. is_some board.deal) boards

-- how many claims a history refuses
abbrev pub is_refused_reply : Reply → Bool
is_refused_reply (BadCertificate fault) = true
is_refused_reply _ = false

abbrev pub refusal_count : List Event → ℕ
refusal_count events = count_by (λ event. is_refused_reply event.reply) events

-- how many boards are to have a complete table: those of the input that have a deal, or all in a page of tables alone,
-- which says of each other one that it is incomplete
abbrev pub wanted_tables : PageForm → Report → List Board → ℕ
wanted_tables Tables report boards = report.boards
wanted_tables Whole report boards = deal_count boards
wanted_tables Sheet report boards = deal_count boards

-- a table of the page is incomplete, or all are complete
abbrev pub page_status : PageForm → Report → List Board → Status
page_status page report boards =
    if nat_lt report.complete (wanted_tables page report boards) then Incomplete else Done

-- how many tables of boards with a deal are incomplete
abbrev pub lacking_tables : Report → List Board → ℕ
lacking_tables report boards = deal_count boards - report.complete

-- what is said of a page, if these tables are incomplete
abbrev pub notes_with : Report → List Board → Lacking → Notes
notes_with report boards lacking = record {
  lacks_boards = nat_eq report.boards 0;
  undealt = length boards - deal_count boards;
  read_only = false;
  lacking = lacking;
}

-- searches were made for its numbers
abbrev pub searched_notes : Report → List Board → Searches → Notes
searched_notes report boards searches =
    notes_with report boards
    (if nat_eq (lacking_tables report boards) 0 then Nothing else Searched (lacking_tables report boards) searches)

-- evidence shows its numbers
abbrev pub unshown_notes : Report → List Board → Notes
unshown_notes report boards =
    notes_with report boards
    (if nat_eq (lacking_tables report boards) 0 then Nothing else Unshown (lacking_tables report boards))
