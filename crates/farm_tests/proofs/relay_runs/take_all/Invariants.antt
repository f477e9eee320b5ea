use Rattle.farm_relay.specs.Relays.{TakesAtSame}
use Rattle.farm_tests.proofs.relay_runs.take_all.Given as goal

abbrev pub invariant-loop : goal.invariant-loop
invariant-loop g l = TakesAtSame l.initial.taker l.taker
