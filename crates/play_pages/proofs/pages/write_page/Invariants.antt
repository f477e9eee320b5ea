-- The sink has the first line and the games so far.
use Rattle.std.proofs.Common.{take, codes}
use Rattle.std.specs.List.{flat_map, enumerate_from}
use Rattle.cards.specs.Devices.{Device, Adds}
use Rattle.play_pages.specs.Tasks.{lines_in}
use Rattle.play_pages.specs.Texts.{game_text}
use Rattle.play_pages.proofs.pages.write_page.Given as goal

abbrev pub invariant-loop-place : goal.invariant-loop-place
invariant-loop-place g l = record {
  begun : Device;
  first_line : Adds (g.S.Sink.state l.fn.sink) begun (codes "% ddfarm plays 1\n");
  wrote : Adds begun (g.S.Sink.state l.sink) (flat_map (game_text l.mistakes (lines_in l.table)) (take l.place (enumerate_from 0 l.games)));
}
