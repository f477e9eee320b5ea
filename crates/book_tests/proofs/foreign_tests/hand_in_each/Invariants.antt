use Rattle.std.proofs.Common.{◌≡◌}
use Rattle.lease_desk.specs.Desks.{IsChairOf, number_of}
use Rattle.book_tests.proofs.foreign_tests.hand_in_each.Given as goal

abbrev pub invariant-loop-hand_in : goal.invariant-loop-hand_in
invariant-loop-hand_in g l = IsChairOf l.desk l.chair × (number_of l.chair ≡ number_of l.initial.chair)
