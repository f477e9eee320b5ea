use Rattle.crossbeam_channel.specs.Claims.{view, IsSeatAt}
use Rattle.crossbeam_channel.specs.Ends.{receives_on}
use Rattle.farm_relay.proofs.Joining.{HasDrained}
use Rattle.farm_relay.proofs.closing.drain.Given as goal

abbrev pub invariant-loop : goal.invariant-loop
invariant-loop g l =
    IsSeatAt (receives_on l.receiver) l.pass × HasDrained (view l.fn.pass) l.left.items (view l.pass)
