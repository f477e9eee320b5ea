use Rattle.std.proofs.Common.{◌≡◌}
use Rattle.lease_desk.specs.Desks.{IsChairOf, number_of}
use Rattle.book_tests.proofs.desk_tests.many_threads.DrawnShift.work.Given as goal

abbrev pub invariant-loop-step : goal.invariant-loop-step
invariant-loop-step g l = IsChairOf l.desk l.chair × (number_of l.chair ≡ number_of l.initial.chair)
