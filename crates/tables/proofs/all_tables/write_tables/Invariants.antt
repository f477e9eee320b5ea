-- The first line and the boards so far have gone out.
use Rattle.std.proofs.Common.{take, codes}
use Rattle.std.specs.List.{flat_map, enumerate_from}
use Rattle.cards.specs.Devices.{Device, Adds}
use Rattle.tables.specs.TablesText.{ended_line, numbered_text}
use Rattle.tables.proofs.all_tables.write_tables.Given as goal

abbrev pub invariant-loop-place : goal.invariant-loop-place
invariant-loop-place g l = record {
  begun : Device;
  first_line : Adds (g.S.Sink.state l.fn.sink) begun (ended_line (codes "% PBN 2.1"));
  wrote : Adds begun (g.S.Sink.state l.sink) (flat_map (numbered_text (g.T.Results.printed_of l.results)) (take l.place (enumerate_from 0 l.boards)));
}
