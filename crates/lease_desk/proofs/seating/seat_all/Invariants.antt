use Rattle.std.proofs.Common.{◌≡◌, [], All, map}
use Rattle.crossbeam_channel.specs.Claims.{view, IsSeatAt}
use Rattle.crossbeam_channel.specs.Ends.{sends_on}
use Rattle.lease_desk.specs.Views.{usher}
use Rattle.lease_desk.specs.Desks.{IsChairAt, number_of, receipts_in}
use Rattle.lease_desk.proofs.Numbers.{AreUpTo}
use Rattle.lease_desk.proofs.seating.seat_all.Given as goal

abbrev pub invariant-loop-number : goal.invariant-loop-number
invariant-loop-number l =
    IsSeatAt (sends_on l.ends.sender) l.token
    × (view l.token ≡ usher (view l.fn.token).opening l.number)
    × All (IsChairAt l.ends (view l.fn.token).opening) l.chairs.items
    × AreUpTo l.number (map number_of l.chairs.items)
    × All (λ chair. receipts_in chair ≡ []) l.chairs.items
