-- The list has the cards that may be played, as far as this place.
use Rattle.play_rules.specs.Holdings.{AreListedTo}
use Rattle.play_rules.proofs.holdings.legal_cards.Given as goal

abbrev pub invariant-loop-place : goal.invariant-loop-place
invariant-loop-place l = AreListedTo l.left l.player l.trick l.place l.cards.items
