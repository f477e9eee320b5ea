-- The cells of the denominations so far have gone out.
use Rattle.std.proofs.Common.{◌≡◌, take}
use Rattle.std.specs.List.{flat_map}
use Rattle.cards.specs.Devices.{Adds}
use Rattle.sheets.specs.Results.{columns, entry_text}
use Rattle.sheets.proofs.results.write_cells.Given as goal

abbrev pub invariant-loop-trump : goal.invariant-loop-trump
invariant-loop-trump g l = record {
  items : l.trump-items ≡ columns;
  wrote : Adds (g.S.Sink.state l.fn.sink) (g.S.Sink.state l.sink) (flat_map (entry_text (g.T.Results.printed_of l.results l.board).results l.declarer) (take l.trump-index columns));
}
