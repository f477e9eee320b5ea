-- The cards so far were taken over.
use Rattle.std.proofs.Common.{◌≡◌, take}
use Rattle.card_values.proofs.judging.with_card.Given as goal

abbrev pub invariant-loop-one : goal.invariant-loop-one
invariant-loop-one l = l.cards.items ≡ take l.one-index l.played
