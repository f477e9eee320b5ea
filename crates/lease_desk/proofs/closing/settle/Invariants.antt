use Rattle.std.proofs.Common.{◌≡◌}
use Rattle.crossbeam_channel.specs.Claims.{view, IsSeatAt}
use Rattle.crossbeam_channel.specs.Ends.{sends_on}
use Rattle.lease_desk.proofs.Loops.{IsSettling}
use Rattle.lease_desk.proofs.closing.settle.Given as goal

abbrev pub invariant-loop-chair : goal.invariant-loop-chair
invariant-loop-chair l =
    IsSeatAt (sends_on l.ends.sender) l.own
    × (view l.own ≡ view l.fn.own)
    × IsSettling (view l.fn.own).custody l.chair-index l.initial.chairs l.chairs
