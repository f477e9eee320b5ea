-- The sink has the rows of the denominations so far.
use Rattle.std.proofs.Common.{◌≡◌, take}
use Rattle.std.specs.List.{flat_map}
use Rattle.cards.specs.Devices.{Adds}
use Rattle.tables.specs.TablesText.{denominations}
use Rattle.opening_leads.specs.Tasks.{leads_in}
use Rattle.opening_leads.specs.Texts.{row_of}
use Rattle.opening_leads.proofs.writing.write_declarer_rows.Given as goal

abbrev pub invariant-loop-trump : goal.invariant-loop-trump
invariant-loop-trump g l = record {
  items : l.trump-items ≡ denominations;
  wrote : Adds (g.S.Sink.state l.fn.sink) (g.S.Sink.state l.sink) (flat_map (row_of (leads_in l.table l.board) l.declarer) (take l.trump-index denominations));
}
