-- The results of the declarers so far are counted.
use Rattle.std.proofs.Common.{◌≡◌, ◌≤◌, ◌*◌, take}
use Rattle.std.specs.List.{flat_map}
use Rattle.tables.specs.TablesText.{declarers, entries_of, published_among}
use Rattle.tables.proofs.tables.count_results.Given as goal

abbrev pub invariant-loop-declarer : goal.invariant-loop-declarer
invariant-loop-declarer g l = record {
  items : l.declarer-items ≡ declarers;
  counted : l.count ≡ published_among (g.T.Results.printed_of l.results l.board).results (flat_map entries_of (take l.declarer-index declarers));
  bound : l.count ≤ 5 * l.declarer-index;
}
