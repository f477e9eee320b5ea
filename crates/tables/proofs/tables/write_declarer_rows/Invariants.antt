-- The rows of the denominations so far have gone out.
use Rattle.std.proofs.Common.{◌≡◌, take}
use Rattle.std.specs.List.{flat_map}
use Rattle.cards.specs.Devices.{Adds}
use Rattle.cards.specs.declared.suits.Trump.{Trump}
use Rattle.tables.specs.TablesText.{denominations, entry_row}
use Rattle.tables.proofs.tables.write_declarer_rows.Given as goal

abbrev pub invariant-loop-trump : goal.invariant-loop-trump
invariant-loop-trump g l = record {
  items : l.trump-items ≡ denominations;
  wrote : Adds (g.S.Sink.state l.fn.sink) (g.S.Sink.state l.sink) (flat_map (λ (denomination : Trump). entry_row l.end (g.T.Results.printed_of l.results l.board).results (l.declarer, denomination)) (take l.trump-index denominations));
}
