use Rattle.farm_relay.specs.Relays.{PutsAtSame}
use Rattle.farm_tests.proofs.relay_runs.put_range.Given as goal

abbrev pub invariant-loop-number : goal.invariant-loop-number
invariant-loop-number g l = PutsAtSame l.initial.putter l.putter
