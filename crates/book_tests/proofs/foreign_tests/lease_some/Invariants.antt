use Rattle.std.proofs.Common.{◌≡◌}
use Rattle.lease_desk.specs.Desks.{IsChairOf, number_of}
use Rattle.book_tests.proofs.foreign_tests.lease_some.Given as goal

abbrev pub invariant-loop-place : goal.invariant-loop-place
invariant-loop-place g l = IsChairOf l.desk l.chair × (number_of l.chair ≡ number_of l.initial.chair)
