use Rattle.std.proofs.Common.{◌≡◌, ◌++◌, All}
use Rattle.crossbeam_channel.specs.Claims.{view, IsSeatAt}
use Rattle.crossbeam_channel.specs.Ends.{sends_on, receives_on}
use Rattle.farm_relay.specs.declared.takers.Taker.{Taker}
use Rattle.farm_relay.specs.Closing.{HasJoinedTakers}
use Rattle.farm_relay.proofs.closing.join_takers.Given as goal

abbrev pub invariant-loop-taker : goal.invariant-loop-taker
invariant-loop-taker g l = record {
  seat : IsSeatAt (sends_on l.sender) l.pass;
  joined : HasJoinedTakers (view l.initial.pass) l.yielded (view l.pass);
  of : All (λ (taker : Taker g.row.T.Denot). receives_on taker.receiver ≡ sends_on l.sender) l.taker-iterator.rest.items;
  whole : l.yielded ++ l.taker-iterator.rest.items ≡ l.initial.taker-iterator.rest.items;
}
