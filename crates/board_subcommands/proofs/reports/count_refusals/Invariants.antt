-- The claims so far that are refused are counted.
use Rattle.std.proofs.Common.{◌≡◌, ◌≤◌, take, count_by}
use Rattle.board_subcommands.specs.Reports.{is_refused_reply}
use Rattle.board_subcommands.proofs.reports.count_refusals.Given as goal

abbrev pub invariant-loop-event : goal.invariant-loop-event
invariant-loop-event l = record {
  counted : l.count ≡ count_by (λ event. is_refused_reply event.reply) (take l.event-index l.events);
  bound : l.count ≤ l.event-index;
}
