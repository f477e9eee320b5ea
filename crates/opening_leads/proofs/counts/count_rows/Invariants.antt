-- The rows of the declarers so far are counted.
use Rattle.std.proofs.Common.{◌≡◌, ◌≤◌, ◌*◌, take, sum_by}
use Rattle.tables.specs.TablesText.{declarers}
use Rattle.opening_leads.specs.Tasks.{leads_in}
use Rattle.opening_leads.specs.Texts.{counted_of}
use Rattle.opening_leads.proofs.counts.count_rows.Given as goal

abbrev pub invariant-loop-declarer : goal.invariant-loop-declarer
invariant-loop-declarer l = record {
  items : l.declarer-items ≡ declarers;
  counted : l.count ≡ sum_by (counted_of l.counted (leads_in l.table l.board)) (take l.declarer-index declarers);
  bound : l.count ≤ 5 * l.declarer-index;
}
