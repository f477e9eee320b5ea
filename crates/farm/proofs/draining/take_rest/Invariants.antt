use Rattle.std.proofs.Common.{◌≡◌}
use Rattle.farm_relay.specs.Relays.{TakesAtSame, marks_of}
use Rattle.farm.proofs.draining.take_rest.Given as goal

abbrev pub invariant-loop : goal.invariant-loop
invariant-loop g l = TakesAtSame l.initial.taker l.taker × (marks_of l.taker ≡ marks_of l.initial.taker)
