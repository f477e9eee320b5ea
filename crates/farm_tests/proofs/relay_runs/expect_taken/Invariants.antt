use Rattle.farm_relay.specs.Relays.{TakesAtSame}
use Rattle.farm_tests.proofs.relay_runs.expect_taken.Given as goal

abbrev pub invariant-loop-number : goal.invariant-loop-number
invariant-loop-number g l = TakesAtSame l.initial.taker l.taker
