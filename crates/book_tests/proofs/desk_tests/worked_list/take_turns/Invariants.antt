use Rattle.lease_desk.specs.Desks.{AreChairsOf}
use Rattle.book_tests.proofs.desk_tests.worked_list.take_turns.Given as goal

abbrev pub invariant-loop-turn : goal.invariant-loop-turn
invariant-loop-turn g l = AreChairsOf l.desk l.chairs
