-- The sink has the groups so far.
use Rattle.std.proofs.Common.{◌≡◌, take}
use Rattle.std.specs.List.{flat_map}
use Rattle.cards.specs.Devices.{Adds}
use Rattle.card_values.specs.Texts.{falling_counts, group_if_any}
use Rattle.card_values.proofs.texts.write_groups.Given as goal

abbrev pub invariant-loop-tricks : goal.invariant-loop-tricks
invariant-loop-tricks g l = record {
  items : l.tricks-items ≡ falling_counts;
  wrote : Adds (g.S.Sink.state l.fn.sink) (g.S.Sink.state l.sink) (flat_map (group_if_any l.values) (take l.tricks-index falling_counts));
}
