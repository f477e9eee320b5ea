use Rattle.std.proofs.Common.{◌≡◌, All, length}
use Rattle.crossbeam_channel.specs.Claims.{view, IsSeatAt}
use Rattle.crossbeam_channel.specs.Ends.{sends_on}
use Rattle.farm_relay.specs.Tallies.{given_away}
use Rattle.farm_relay.specs.Opening.{IsNewTaker}
use Rattle.farm_relay.proofs.opening.new_takers.Given as goal

abbrev pub invariant-loop-taker : goal.invariant-loop-taker
invariant-loop-taker g l =
    IsSeatAt (sends_on l.ends.sender) l.pass
    × (view l.pass ≡ given_away l._taker (view l.initial.pass))
    × All (IsNewTaker l.ends) l.takers.items
    × (length l.takers.items ≡ l._taker)
