-- The lines so far have gone out, and the leader is who leads after their cards.
use Rattle.std.proofs.Common.{◌≡◌, ◌+◌, ◌*◌, ◌/◌, take, length}
use Rattle.std.specs.List.{flat_map, range_with_len}
use Rattle.cards.specs.Devices.{Adds}
use Rattle.play_rules.specs.History.{leader_after}
use Rattle.play_dialogues.specs.PlayText.{line_after}
use Rattle.play_dialogues.proofs.plays.write_tricks.Given as goal

abbrev pub invariant-loop-place : goal.invariant-loop-place
invariant-loop-place g l = record {
  leads : l.leader ≡ leader_after l.trump l.fn.first_leader (take (4 * l.place) l.cards);
  wrote : Adds (g.S.Sink.state l.fn.output) (g.S.Sink.state l.output)
      (flat_map (line_after l.trump l.fn.first_leader l.cards) (take l.place (range_with_len 0 ((length l.cards + 3) / 4))));
}
