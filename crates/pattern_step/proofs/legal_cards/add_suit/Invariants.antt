use Rattle.std.proofs.Common.{◌≡◌, ◌++◌, length}
use Rattle.patterns.specs.Words.{places_of}
use Rattle.pattern_step.proofs.TopPlaces.{tops_at, AreEven}
use Rattle.pattern_step.proofs.legal_cards.add_suit.Given as goal

-- the tops so far, and those in the places that are left, are the seat's tops
abbrev pub invariant-loop-places : goal.invariant-loop-places
invariant-loop-places l = record {
  even : AreEven (length l.held.owners) l.places;
  items : l.cards.items ++ tops_at l.suit 0 (length l.held.owners) l.places ≡ l.initial.cards.items ++ tops_at l.suit 0 (length l.held.owners) (places_of l.seat l.held.owners);
}

abbrev pub decreases-loop-places : goal.decreases-loop-places
decreases-loop-places l = l.places
