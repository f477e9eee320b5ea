-- The leases so far under which something is handed in are counted.
use Rattle.std.proofs.Common.{◌≡◌, ◌≤◌, take}
use Rattle.farm.specs.Leases.{all_handed_in, one_each}
use Rattle.farm.proofs.unclaimed.count_handed_in.Given as goal

abbrev pub invariant-loop-event : goal.invariant-loop-event
invariant-loop-event l = record {
  counted : l.count ≡ all_handed_in one_each (take l.event-index l.events);
  bound : l.count ≤ l.event-index;
}
