use Rattle.std.proofs.lemmas.Bool.Decides.{Decides-eqb}
use Rattle.checker.proofs.WinnerLaws.{sets_told, listed_rightly}
use Rattle.patterns.proofs.SeatLaws.{told_alike}
use Rattle.checker.proofs.ends.lists_winners.Goals as goal

pub returns : goal.returns
returns c =
    let listed = c.seats_listed.result in
    let going = c.seats_going_on.result in
    let same = sets_told listed going c.seats_listed.ensures.below c.seats_going_on.ensures.below in
    let rightly = listed_rightly c.args.graph.now c.args.node.now c.args.trick.now c.args.children.now c.winners-winners.result listed going c.side.result c.side.ensures
    (rw c.trump.ensures at c.winners-winners.ensures) c.seats_listed.ensures.bits c.seats_going_on.ensures.bits in
    told_alike (told_alike (Decides-eqb listed going) (same.1, same.0)) (rightly.1, rightly.0)
