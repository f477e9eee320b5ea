use Rattle.std.proofs.Common.{◌≡◌, All, length}
use Rattle.crossbeam_channel.specs.Claims.{view, IsSeatAt}
use Rattle.crossbeam_channel.specs.Ends.{sends_on}
use Rattle.farm_relay.specs.Tallies.{given_away}
use Rattle.farm_relay.specs.Opening.{IsNewPutter}
use Rattle.farm_relay.proofs.opening.new_putters.Given as goal

abbrev pub invariant-loop-putter : goal.invariant-loop-putter
invariant-loop-putter g l =
    IsSeatAt (sends_on l.ends.sender) l.pass
    × (view l.pass ≡ given_away l._putter (view l.initial.pass))
    × All (IsNewPutter l.ends l.takers) l.putters.items
    × (length l.putters.items ≡ l._putter)
