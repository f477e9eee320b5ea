-- The leases so far that are given are counted.
use Rattle.std.proofs.Common.{◌≡◌, ◌≤◌, take}
use Rattle.lease_book.specs.Settling.{given_in}
use Rattle.farm.specs.Leases.{one_each}
use Rattle.farm.proofs.unclaimed.count_given.Given as goal

abbrev pub invariant-loop-event : goal.invariant-loop-event
invariant-loop-event l = record {
  counted : l.count ≡ given_in one_each (take l.event-index l.events);
  bound : l.count ≤ l.event-index;
}
