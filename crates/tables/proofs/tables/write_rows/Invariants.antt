-- The rows of the declarers so far have gone out.
use Rattle.std.proofs.Common.{◌≡◌, take}
use Rattle.std.specs.List.{flat_map}
use Rattle.cards.specs.Devices.{Adds}
use Rattle.tables.specs.TablesText.{declarers, entries_of, entry_row}
use Rattle.tables.proofs.tables.write_rows.Given as goal

abbrev pub invariant-loop-declarer : goal.invariant-loop-declarer
invariant-loop-declarer g l = record {
  items : l.declarer-items ≡ declarers;
  wrote : Adds (g.S.Sink.state l.fn.sink) (g.S.Sink.state l.sink) (flat_map (λ declarer. flat_map (entry_row l.end (g.T.Results.printed_of l.results l.board).results) (entries_of declarer)) (take l.declarer-index declarers));
}
