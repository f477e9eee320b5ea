-- The denominations so far whose rows are to be counted are.
use Rattle.std.proofs.Common.{◌≡◌, ◌≤◌, take}
use Rattle.std.specs.Prelude.{count_by}
use Rattle.tables.specs.TablesText.{denominations}
use Rattle.opening_leads.specs.Leads.{is_counted}
use Rattle.opening_leads.specs.Tasks.{leads_in}
use Rattle.opening_leads.proofs.counts.count_declarer_rows.Given as goal

abbrev pub invariant-loop-trump : goal.invariant-loop-trump
invariant-loop-trump l = record {
  items : l.trump-items ≡ denominations;
  counted : l.count ≡ count_by (λ denomination. is_counted l.counted (leads_in l.table l.board l.declarer denomination)) (take l.trump-index denominations);
  bound : l.count ≤ l.trump-index;
}
