use Rattle.std.proofs.Common.{◌≡◌, ◌++◌}
use Rattle.crossbeam_channel.specs.Claims.{view, IsSeatAt}
use Rattle.crossbeam_channel.specs.Ends.{sends_on}
use Rattle.farm_relay.specs.Closing.{HasJoinedPutters}
use Rattle.farm_relay.proofs.closing.join_putters.Given as goal

abbrev pub invariant-loop-putter : goal.invariant-loop-putter
invariant-loop-putter g l =
    IsSeatAt (sends_on l.sender) l.pass
    × HasJoinedPutters (view l.initial.pass) l.yielded (view l.pass)
    × (l.yielded ++ l.putter-iterator.rest.items ≡ l.fn.putters.items)
