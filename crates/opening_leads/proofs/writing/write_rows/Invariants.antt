-- The sink has the rows of the declarers so far.
use Rattle.std.proofs.Common.{◌≡◌, take}
use Rattle.std.specs.List.{flat_map}
use Rattle.cards.specs.Devices.{Adds}
use Rattle.tables.specs.TablesText.{declarers}
use Rattle.opening_leads.specs.Tasks.{leads_in}
use Rattle.opening_leads.specs.Texts.{declarer_rows}
use Rattle.opening_leads.proofs.writing.write_rows.Given as goal

abbrev pub invariant-loop-declarer : goal.invariant-loop-declarer
invariant-loop-declarer g l = record {
  items : l.declarer-items ≡ declarers;
  wrote : Adds (g.S.Sink.state l.fn.sink) (g.S.Sink.state l.sink) (flat_map (declarer_rows (leads_in l.table l.board)) (take l.declarer-index declarers));
}
