-- The ranks so far have gone out.
use Rattle.std.proofs.Common.{◌≡◌, take}
use Rattle.std.specs.List.{flat_map}
use Rattle.cards.specs.Devices.{Adds}
use Rattle.sheets.specs.HandText.{ranks_falling, card_shown}
use Rattle.sheets.proofs.hands.write_cards.Given as goal

abbrev pub invariant-loop-rank : goal.invariant-loop-rank
invariant-loop-rank g l = record {
  items : l.rank-items ≡ ranks_falling;
  wrote : Adds (g.S.Sink.state l.fn.sink) (g.S.Sink.state l.sink) (flat_map (card_shown l.layout l.seat l.suit) (take l.rank-index ranks_falling));
}
