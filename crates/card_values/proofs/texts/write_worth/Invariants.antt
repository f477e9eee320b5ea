-- The sink has the cards of the values so far.
use Rattle.std.proofs.Common.{take}
use Rattle.std.specs.List.{flat_map}
use Rattle.cards.specs.Devices.{Adds}
use Rattle.card_values.specs.Texts.{card_if_worth}
use Rattle.card_values.proofs.texts.write_worth.Given as goal

abbrev pub invariant-loop-value : goal.invariant-loop-value
invariant-loop-value g l =
    Adds (g.S.Sink.state l.fn.sink) (g.S.Sink.state l.sink) (flat_map (card_if_worth l.tricks) (take l.value-index l.values))
