-- The sink has the sections of the games so far.
use Rattle.std.proofs.Common.{take}
use Rattle.std.specs.List.{flat_map, enumerate_from}
use Rattle.cards.specs.Devices.{Adds}
use Rattle.play_pages.specs.Tasks.{lines_in}
use Rattle.play_pages.specs.Evidence.{game_evidence}
use Rattle.play_pages.proofs.sections.write_evidence.Given as goal

abbrev pub invariant-loop-place : goal.invariant-loop-place
invariant-loop-place g l = record {
  wrote : Adds (g.S.Sink.state l.fn.sink) (g.S.Sink.state l.sink) (flat_map (game_evidence (lines_in l.table)) (take l.place (enumerate_from 0 l.games)));
}
