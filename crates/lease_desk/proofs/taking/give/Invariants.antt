use Rattle.std.proofs.Common.{◌≡◌}
use Rattle.crossbeam_channel.specs.Claims.{view, IsSeatAt}
use Rattle.crossbeam_channel.specs.Ends.{sends_on}
use Rattle.lease_desk.proofs.taking.give.Given as goal

abbrev pub invariant-loop : goal.invariant-loop
invariant-loop g l =
    IsSeatAt (sends_on l.sender) l.token × (view l.token ≡ view l.initial.token) × (l.message ≡ l.initial.message)
