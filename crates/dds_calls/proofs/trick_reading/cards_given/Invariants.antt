-- The cards so far are those given in the places so far.
use Rattle.dds_calls.specs.Readings.{AreGivenTo}
use Rattle.dds_calls.proofs.trick_reading.cards_given.Given as goal

abbrev pub invariant-loop-place : goal.invariant-loop-place
invariant-loop-place l = AreGivenTo l.board l.place l.cards.items
