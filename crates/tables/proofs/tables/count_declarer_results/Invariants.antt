-- The denominations so far that have a result are counted.
use Rattle.std.proofs.Common.{◌≡◌, ◌≤◌, take}
use Rattle.std.specs.Prelude.{is_some, count_by}
use Rattle.tables.specs.TablesText.{denominations}
use Rattle.tables.proofs.tables.count_declarer_results.Given as goal

abbrev pub invariant-loop-trump : goal.invariant-loop-trump
invariant-loop-trump g l = record {
  items : l.trump-items ≡ denominations;
  counted : l.count ≡ count_by (λ denomination. is_some ((g.T.Results.printed_of l.results l.board).results l.declarer denomination)) (take l.trump-index denominations);
  bound : l.count ≤ l.trump-index;
}
