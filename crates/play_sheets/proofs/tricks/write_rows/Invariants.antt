-- The sink has the rows so far.
use Rattle.std.proofs.Common.{take}
use Rattle.std.specs.List.{flat_map, range_with_len}
use Rattle.cards.specs.Devices.{Adds}
use Rattle.play_sheets.specs.Tricks.{trick_count, row_at}
use Rattle.play_sheets.proofs.tricks.write_rows.Given as goal

abbrev pub invariant-loop-place : goal.invariant-loop-place
invariant-loop-place g l = record {
  wrote : Adds (g.S.Sink.state l.fn.sink) (g.S.Sink.state l.sink) (flat_map (row_at l.trump l.end l.lines) (take l.place (range_with_len 0 (trick_count l.lines))));
}
