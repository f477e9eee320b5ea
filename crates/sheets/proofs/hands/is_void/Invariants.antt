-- The seat holds none of the ranks so far.
use Rattle.std.proofs.Common.{◌≡◌, true, not, take}
use Rattle.std.specs.List.{list_all}
use Rattle.cards.specs.Pack.{card_of}
use Rattle.cards.specs.Deal.{holder_of, is_held_by}
use Rattle.sheets.specs.HandText.{ranks_falling}
use Rattle.sheets.proofs.hands.is_void.Given as goal

abbrev pub invariant-loop-rank : goal.invariant-loop-rank
invariant-loop-rank l = record {
  items : l.rank-items ≡ ranks_falling;
  none : list_all (λ rank. not (is_held_by l.seat (holder_of l.layout (card_of l.suit rank)))) (take l.rank-index ranks_falling) ≡ true;
}
